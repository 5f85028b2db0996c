-- The turns passed have their rows, and the counts and the least of them are those of the state that the turns lead to.
use Rattle.rows.proofs.Going.{Going}
use Rattle.rows.proofs.write_turns.Given as goal

abbrev pub invariant-loop-i : goal.invariant-loop-i
invariant-loop-i l = Going l.fn.begin.state l.tasks l.log l.fn.rows l.i l.counts l.least l.rows
