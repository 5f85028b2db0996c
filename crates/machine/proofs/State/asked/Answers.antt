-- For a state that is refused, and for one in range.
use Rattle.std.proofs.Common.{eq-eqb, sym, ◌∙◌}
use Rattle.std.proofs.lemmas.Result.{err_from_is_err_and}
use Rattle.reason.specs.Checked.{checked_ok, checked_err, checked_refused}
use Rattle.machine.specs.Ready.{ready_of}
use Rattle.machine.proofs.State.asked.Goals as goal

pub returns-in_err-check : goal.returns-in_err-check
unfolding ready_of
returns-in_err-check c =
    let p = err_from_is_err_and c.from_residual.result c.from_residual.ensures.1 in
    let told = sym c.check.ensures ∙ c.in_err-check.was in
    rw (p.1, p.2, checked_refused _ told, checked_err _ told)

pub returns : goal.returns
unfolding ready_of
returns c = rw (eq-eqb _ 0 (checked_ok _ (sym c.check.ensures ∙ c.in_ok-check.was))) c.able.ensures
