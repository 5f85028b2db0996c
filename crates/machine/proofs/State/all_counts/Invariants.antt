-- The counts passed are the tasks', the others 0.
use Rattle.std.proofs.Common.{◌≡◌, ◌-◌, ◌≤◌, ◌++◌, replicate}
use Rattle.bitset.specs.Table.{table}
use Rattle.machine.specs.Least.{count_of}
use Rattle.machine.proofs.State.all_counts.Given as goal

abbrev pub invariant-loop-q : goal.invariant-loop-q
invariant-loop-q l = record { in_range : l.q ≤ 64; filled : l.all ≡ table l.q (count_of l.self) ++ replicate (64 - l.q) 0 }
