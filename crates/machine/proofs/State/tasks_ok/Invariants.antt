-- The tasks passed are as they must be if none was seen that is not.
use Rattle.std.proofs.Common.{◌≡◌}
use Rattle.machine.specs.Range.{tasks_ok}
use Rattle.machine.proofs.State.tasks_ok.Given as goal

abbrev pub invariant-loop-q : goal.invariant-loop-q
invariant-loop-q l = l.ok ≡ tasks_ok l.self l.q
