-- A state in range, and one of which a field is out of range.
use Rattle.std.proofs.Common.{refl, sym, ◌∙◌}
use Rattle.std.proofs.lemmas.Result.{err_from_is_err_and}
use Rattle.reason.specs.Checked.{checked_ok}
use Rattle.machine.proofs.State.valid.Goals as goal

pub invariant_of-result : goal.invariant_of-result
invariant_of-result c = record { valid = checked_ok _ (sym c.check.ensures ∙ c.in_ok-check.was) }

pub returns-in_err-check : goal.returns-in_err-check
returns-in_err-check c =
    let p = err_from_is_err_and c.from_residual.result c.from_residual.ensures.1 in
    record { told = rw (p.1, p.2) (sym (sym c.check.ensures ∙ c.in_err-check.was)); value = rw p.1 tt }

pub returns : goal.returns
returns c = record { told = sym (sym c.check.ensures ∙ c.in_ok-check.was); value = refl }
