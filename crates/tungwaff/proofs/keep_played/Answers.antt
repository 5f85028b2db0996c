-- `keep_played` meets its contract: a refused play-back leaves the list, and so does one whose list is too short.
use Rattle.std.proofs.lemmas.Result.{err_from_is_err_and}
use Rattle.std.proofs.Common.{sym, ◌∙◌, eq-eqb, ne_eqb, arith}
use Rattle.playback.specs.Playback.{verdict_reason}
use Rattle.reason.specs.Checked.{checked_ok, checked_err, checked_positive}
use Rattle.snapshot.specs.Snapshot.{room_reason}
use Rattle.tungwaff.specs.Entry.{kept_verdict, kept_played}
use Rattle.tungwaff.proofs.keep_played.Goals as goal

pub returns-then-verdict_reason-ne0-clause-value : goal.returns-then-verdict_reason-ne0-clause-value
unfolding kept_verdict
returns-then-verdict_reason-ne0-clause-value c =
    rw (ne_eqb (verdict_reason c.args.played.verdict) 0 (λ z. c.if-verdict_reason-ne0.true (c.verdict_reason.ensures ∙ z)))

pub returns-then-verdict_reason-ne0-clause-list_after : goal.returns-then-verdict_reason-ne0-clause-list_after
unfolding kept_played
returns-then-verdict_reason-ne0-clause-list_after c =
    rw (ne_eqb (verdict_reason c.args.played.verdict) 0 (λ z. c.if-verdict_reason-ne0.true (c.verdict_reason.ensures ∙ z)))

pub returns-clause-value : goal.returns-clause-value
unfolding kept_verdict
returns-clause-value c =
    let accepted = eq-eqb (verdict_reason c.args.played.verdict) 0 (sym c.verdict_reason.ensures ∙ c.if-verdict_reason-ne0.false) in
    let room = checked_ok (room_reason c.args.list.now) (sym c.save.ensures.value ∙ c.in_ok-save.was) in
    rw (accepted, eq-eqb (room_reason c.args.list.now) 0 room)

pub returns-clause-list_after : goal.returns-clause-list_after
unfolding kept_played
returns-clause-list_after c =
    rw (eq-eqb (verdict_reason c.args.played.verdict) 0 (sym c.verdict_reason.ensures ∙ c.if-verdict_reason-ne0.false)) c.save.ensures.list_after

pub returns-in_err-save-clause-value : goal.returns-in_err-save-clause-value
unfolding kept_verdict
returns-in_err-save-clause-value c =
    let accepted = eq-eqb (verdict_reason c.args.played.verdict) 0 (sym c.verdict_reason.ensures ∙ c.if-verdict_reason-ne0.false) in
    let refused = sym c.save.ensures.value ∙ c.in_err-save.was in
    let short = checked_err (room_reason c.args.list.now) refused in
    let positive = checked_positive (room_reason c.args.list.now) refused in
    let p = err_from_is_err_and c.from_residual.result c.from_residual.ensures.1 in
    rw (accepted, ne_eqb (room_reason c.args.list.now) 0 (λ z. absurd (omega (arith, short, positive))), p.1, p.2, short)

pub returns-in_err-save-clause-list_after : goal.returns-in_err-save-clause-list_after
unfolding kept_played
returns-in_err-save-clause-list_after c =
    rw (eq-eqb (verdict_reason c.args.played.verdict) 0 (sym c.verdict_reason.ensures ∙ c.if-verdict_reason-ne0.false)) c.save.ensures.list_after
