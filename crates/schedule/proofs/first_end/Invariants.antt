-- While no pass has ended, the first pass is that of the turns since the place and those still to come.
use Rattle.schedule.proofs.Walking.{Walking}
use Rattle.schedule.proofs.first_end.Given as goal

abbrev pub invariant-loop-i : goal.invariant-loop-i
invariant-loop-i l = Walking l.n l.schedule l.place l.seen l.i
