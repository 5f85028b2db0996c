-- A call that is not refused names a kind and a number of tasks, and each work length is 1 or more.
use Rattle.std.proofs.Common.{◌≡◌, sym, ◌∙◌, List, ℕ, Result, Ok, arith}
use Rattle.reason.specs.Checked.{checked, checked_ok}
use Rattle.setup.specs.Tables.{works_reason}
use Rattle.setup.specs.Reasons.{limit_reason}
use Rattle.setup.specs.ReasonsLaws.{Counted, accepted_limit}
use Rattle.bound.specs.BoundLaws.{works_some}
use Rattle.bound.proofs.limit.Goals as goal

accepts : {u : Unit {0}} {r : Result (Unit {0}) ℕ} (kind n : ℕ) (works : List ℕ) → r ≡ checked (limit_reason kind n works) → r ≡ Ok u
    → Counted kind n × (works_reason n works ≡ 0)
accepts kind n works is ok = accepted_limit kind n works (checked_ok (limit_reason kind n works) (sym is ∙ ok))

pub returns-in_err-try_from : goal.returns-in_err-try_from
returns-in_err-try_from c =
    let a = accepts _ _ _ c.limit_reason.ensures c.in_ok-limit_reason.was in
    absurd (omega (arith, a.0.known, c.in_err-try_from.ensures.1))

pub round_moves-moves-requires : goal.round_moves-moves-requires
round_moves-moves-requires c =
    let a = accepts _ _ _ c.limit_reason.ensures c.in_ok-limit_reason.was in
    (a.0.some, a.0.few)

pub work_sum-requires : goal.work_sum-requires
work_sum-requires c = (accepts _ _ _ c.limit_reason.ensures c.in_ok-limit_reason.was).0.few

pub overflow_sub-work : goal.overflow_sub-work
overflow_sub-work c =
    let a = accepts _ _ _ c.limit_reason.ensures c.in_ok-limit_reason.was in
    omega (arith, c.work_sum.ensures.0, works_some c.args.n c.args.works.now a.1)
