-- `tungwaff_turn` meets its contract: the state after a turn that was made is saved.
use Rattle.std.proofs.Common.{◌≡◌, sym, ap, ◌∙◌, eq-eqb, ne_eqb}
use Rattle.machine.specs.declared.Turned.{Turned}
use Rattle.machine.specs.Turn.{reason_number}
use Rattle.snapshot.specs.Snapshot.{saved_to}
use Rattle.numbers.specs.Numbers.{turn_number, turn_closed, refused_is}
use Rattle.tungwaff.specs.Entry.{Begun, kept_in, turned_from, turn_list}
use Rattle.tungwaff.proofs.tungwaff_turn.Goals as goal

pub returns-then-reason-eq0 : goal.returns-then-reason-eq0
unfolding turn_list
returns-then-reason-eq0 c =
    let made : Turned = turned_from (kept_in c.args.list.now) c.args.task in
    let turned : c.turn_of-turned.result ≡ made = c.turn_of-turned.ensures ∙ ap (λ (b : Begun). turned_from b c.args.task) c.load.ensures in
    let reason : c.refused_reason-reason.result ≡ reason_number made.outcome
    = c.refused_reason-reason.ensures ∙ refused_is c.turn_of-turned.result.outcome ∙ ap (λ (t : Turned). reason_number t.outcome) turned in
    let moved : c.turn_number.result ≡ turn_number made.outcome = c.turn_number.ensures ∙ ap (λ (t : Turned). turn_number t.outcome) turned in
    let closed : c.turn_closed.result ≡ turn_closed made.outcome = c.turn_closed.ensures ∙ ap (λ (t : Turned). turn_closed t.outcome) turned in
    let saved = c.save.ensures.list_after ∙ ap (λ (x : Turned). saved_to x.state c.args.list.now) turned in
    rw (eq-eqb (reason_number made.outcome) 0 (sym reason ∙ c.if-reason-eq0.true))
    (λ i. record { reason = sym reason i; moved = sym moved i; closed = sym closed i; list = sym saved i })

pub returns-else-reason-eq0 : goal.returns-else-reason-eq0
unfolding turn_list
returns-else-reason-eq0 c =
    let made : Turned = turned_from (kept_in c.args.list.now) c.args.task in
    let turned : c.turn_of-turned.result ≡ made = c.turn_of-turned.ensures ∙ ap (λ (b : Begun). turned_from b c.args.task) c.load.ensures in
    let reason : c.refused_reason-reason.result ≡ reason_number made.outcome
    = c.refused_reason-reason.ensures ∙ refused_is c.turn_of-turned.result.outcome ∙ ap (λ (t : Turned). reason_number t.outcome) turned in
    let moved : c.turn_number.result ≡ turn_number made.outcome = c.turn_number.ensures ∙ ap (λ (t : Turned). turn_number t.outcome) turned in
    let closed : c.turn_closed.result ≡ turn_closed made.outcome = c.turn_closed.ensures ∙ ap (λ (t : Turned). turn_closed t.outcome) turned in
    rw (ne_eqb (reason_number made.outcome) 0 (λ z. c.if-reason-eq0.false (reason ∙ z)))
    (λ i. record { reason = sym reason i; moved = sym moved i; closed = sym closed i; list = c.args.list.now })
