-- `runner::run`: a run that is refused as a whole, and one that is not.
use Rattle.std.proofs.Common.{sym, ◌∙◌}
use Rattle.reason.specs.Placed.{checked_at_ok}
use Rattle.runner.proofs.Answers.{refused_answer, in_range}
use Rattle.runner.proofs.run.Goals as goal

pub invariant_of-go : goal.invariant_of-go
invariant_of-go c =
    let a = c.args in
    record { valid = in_range a.state a.schedule.now a.allowance _ (checked_at_ok _ _ (sym c.admitted.ensures ∙ c.in-Ok.is)) }

pub go-requires : goal.go-requires
go-requires c = record { admitted = checked_at_ok _ _ (sym c.admitted.ensures ∙ c.in-Ok.is) }

pub returns-in-Ok : goal.returns-in-Ok
returns-in-Ok c = record { value = c.go.ensures.value; log_after = c.go.ensures.log_after }

pub returns-in-Err : goal.returns-in-Err
returns-in-Err c =
    let a = c.args in
    let r = refused_answer a.state a.schedule.now a.allowance a.log.now _ (sym c.admitted.ensures ∙ c.in-Err.is) _ c.refused.ensures in
    record { value = r.0; log_after = r.1 }
