-- `tungwaff_fresh` meets its contract: no state, or one that is saved.
use Rattle.std.proofs.Common.{sym, ap, ◌∙◌, eq-eqb, ne_eqb}
use Rattle.reason.specs.Checked.{answered_ok, answered_err}
use Rattle.machine.specs.declared.State.{State}
use Rattle.machine.specs.Fresh.{Inputs, fresh_of}
use Rattle.snapshot.specs.Snapshot.{room_reason, saved_to}
use Rattle.numbers.specs.Numbers.{checked_back}
use Rattle.tungwaff.specs.Entry.{inputs_from, fresh_list}
use Rattle.tungwaff.proofs.tungwaff_fresh.Goals as goal

pub returns-in-Ok : goal.returns-in-Ok
unfolding fresh_list
returns-in-Ok c =
    let a = c.args in
    let i : Inputs = inputs_from a.kind a.n a.modulus a.parents.now a.starts.now a.works.now in
    let made = answered_ok (fresh_of i).reason (sym c.freshly.ensures ∙ c.in-Ok.is) in
    let test = eq-eqb (fresh_of i).reason 0 made.0 in
    let saved = c.save.ensures.list_after ∙ ap (λ (s : State). saved_to s a.list.now) (sym made.1) in
    let room = c.refused_reason.ensures ∙ rw c.save.ensures.value (checked_back (room_reason a.list.now)) in
    rw test (λ j. record { reason = sym room j; list = sym saved j })

pub returns-in-Err : goal.returns-in-Err
unfolding fresh_list
returns-in-Err c =
    let a = c.args in
    let i : Inputs = inputs_from a.kind a.n a.modulus a.parents.now a.starts.now a.works.now in
    let why = answered_err (fresh_of i).state (fresh_of i).reason (sym c.freshly.ensures ∙ c.in-Err.is) in
    rw (ne_eqb (fresh_of i).reason 0 why.1, why.0, c.number.ensures)
