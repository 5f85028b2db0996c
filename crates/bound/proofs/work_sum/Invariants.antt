-- What is held is the sum of the tasks passed.
use Rattle.std.proofs.Common.{◌*◌, ◌≡◌, ◌≤◌}
use Rattle.bitset.specs.Sum.{sum}
use Rattle.setup.specs.Tables.{work_of}
use Rattle.bound.proofs.work_sum.Given as goal

abbrev pub invariant-loop-q : goal.invariant-loop-q
invariant-loop-q l = (l.all ≡ sum l.q (work_of l.works)) × (l.all ≤ 255 * l.q)
