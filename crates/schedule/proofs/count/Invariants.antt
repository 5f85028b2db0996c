-- What is left of the schedule has the passes that are not counted yet.
use Rattle.schedule.proofs.Counting.{Counting}
use Rattle.schedule.proofs.count.Given as goal

abbrev pub invariant-loop-i : goal.invariant-loop-i
invariant-loop-i l = Counting l.n l.schedule l.seen l.count l.i
