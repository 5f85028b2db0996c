-- `runner::turns`: state and log are those of the trace so far, and the counts and the least of them those of the state.
use Rattle.runner.proofs.Going as at
use Rattle.runner.proofs.turns.Given as goal

abbrev pub invariant-loop-i : goal.invariant-loop-i
invariant-loop-i l = at.Going l.fn.begin.state l.schedule l.fn.log l.i l.state (record { counts = l.counts; least = l.least }) l.log
