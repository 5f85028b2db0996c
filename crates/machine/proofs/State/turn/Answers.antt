-- A return for each refusal, and one for the step.
use Rattle.std.proofs.Common.{eq-eqb, lt-ltb, le-ltb, sym, ◌∙◌}
use Rattle.reason.specs.Checked.{checked_ok, checked_err, checked_refused}
use Rattle.machine.specs.Turn.{turn_of}
use Rattle.machine.proofs.State.turn.Goals as goal

pub returns-in-Ok : goal.returns-in-Ok
unfolding turn_of
returns-in-Ok c =
    rw (eq-eqb _ 0 (checked_ok _ (sym c.check.ensures ∙ c.in-Ok.is)), lt-ltb c.args.task c.args.self.n c.if-task-self.true) c.step.ensures

pub returns-in-Ok-2 : goal.returns-in-Ok-2
unfolding turn_of
returns-in-Ok-2 c =
    rw (eq-eqb _ 0 (checked_ok _ (sym c.check.ensures ∙ c.in-Ok-2.is)), le-ltb c.args.task c.args.self.n c.if-task-self.false)
    (rw c.into.ensures at c.refused.ensures)

pub returns-in-Err : goal.returns-in-Err
unfolding turn_of
returns-in-Err c =
    let told = sym c.check.ensures ∙ c.in-Err.is in
    rw (checked_refused _ told, checked_err _ told) c.refused-in-Err.ensures
