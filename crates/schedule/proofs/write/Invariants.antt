-- What is written, what is still to come and the rest of the list are the list that is asked.
use Rattle.schedule.proofs.Writing.{Writing}
use Rattle.schedule.proofs.write.Given as goal

abbrev pub invariant-loop-i : goal.invariant-loop-i
invariant-loop-i l = Writing l.n l.schedule l.fn.pairs l.pairs l.seen l.begin l.at l.i
