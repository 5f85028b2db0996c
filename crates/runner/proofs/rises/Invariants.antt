-- `runner::rises`: the tasks passed have their rise, the others 0.
use Rattle.std.proofs.Common.{◌≡◌, ◌-◌, ◌++◌, get_or, replicate}
use Rattle.bitset.specs.Table.{table}
use Rattle.runner.proofs.rises.Given as goal

abbrev pub invariant-loop-q : goal.invariant-loop-q
invariant-loop-q l = l.all ≡ table l.q (λ q. get_or l.after q 0 - get_or l.before q 0) ++ replicate (64 - l.q) 0
