-- A state in range, and one of which a field is out of range.
use Rattle.machine.specs.Range.{check_state}
use Rattle.machine.proofs.State.check.Goals as goal

pub returns-then-in_range : goal.returns-then-in_range
unfolding check_state
returns-then-in_range c = rw (← c.in_range.ensures, c.if-in_range.true)

pub returns-else-in_range : goal.returns-else-in_range
unfolding check_state
returns-else-in_range c = rw (c.into.ensures, ← c.in_range.ensures, c.if-in_range.false)
