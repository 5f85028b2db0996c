-- `runner::admitted`: a return for each reason, by its law.
use Rattle.std.proofs.Common.{sym, ◌∙◌}
use Rattle.std.proofs.lemmas.Result.{err_from_is_err_and}
use Rattle.reason.specs.Checked.{checked_ok, checked_err, checked_positive}
use Rattle.runner.proofs.Answers.{refuses_7, refuses_8, refuses_9, refuses_10, accepts, all_tasks_lem, positive_some}
use Rattle.runner.proofs.admitted.Goals as goal

pub returns-in_err-check : goal.returns-in_err-check
returns-in_err-check c =
    let a = c.args in
    let p = err_from_is_err_and c.from_residual.result c.from_residual.ensures.1 in
    let told = sym c.check.ensures ∙ c.in_err-check.was in
    let k = checked_err _ told in
    rw (p.1, p.2) (sym (refuses_7 a.state.now a.schedule.now a.allowance a.room _ k (positive_some (checked_positive _ told))))

pub returns-then-schedule-gt65536 : goal.returns-then-schedule-gt65536
returns-then-schedule-gt65536 c =
    let a = c.args in
    let ok = checked_ok _ (sym c.check.ensures ∙ c.in_ok-check.was) in
    rw c.into.ensures (sym (refuses_8 a.state.now a.schedule.now a.allowance a.room ok c.if-schedule-gt65536.true))

pub returns-then-place-schedule : goal.returns-then-place-schedule
returns-then-place-schedule c =
    let a = c.args in
    let ok = checked_ok _ (sym c.check.ensures ∙ c.in_ok-check.was) in
    rw c.of_turn.ensures
    (sym (refuses_9 a.state.now a.schedule.now a.allowance a.room ok c.if-schedule-gt65536.false _ c.unknown_at-place.ensures c.if-place-schedule.true))

pub returns-then-room-min : goal.returns-then-room-min
returns-then-room-min c =
    let a = c.args in
    let ok = checked_ok _ (sym c.check.ensures ∙ c.in_ok-check.was) in
    let known = all_tasks_lem _ _ _ c.unknown_at-place.ensures c.if-place-schedule.false in
    rw c.into-then-room-min.ensures (sym (refuses_10 a.state.now a.schedule.now a.allowance a.room ok c.if-schedule-gt65536.false known (rw c.min.ensures at c.if-room-min.true)))

pub returns : goal.returns
returns c =
    let a = c.args in
    let ok = checked_ok _ (sym c.check.ensures ∙ c.in_ok-check.was) in
    let known = all_tasks_lem _ _ _ c.unknown_at-place.ensures c.if-place-schedule.false in
    rw (accepts a.state.now a.schedule.now a.allowance a.room ok c.if-schedule-gt65536.false known (rw c.min.ensures at c.if-room-min.false))
