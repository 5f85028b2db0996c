-- `reader::read_numbers` meets its contract: what is written of numbers that nothing refuses, where there is room.
use Rattle.std.proofs.Common.{◌≡◌, refl, Ok, ℕ, List, map, ◌+◌, ◌≤◌, min, length, take, drop, get_or, sym, ap, ◌∙◌, arith, le-leb}
use Rattle.std.proofs.lemmas.List.{length-take, drop-drop}
use Rattle.std.proofs.lemmas.Result.{err_from_is_err_and}
use Rattle.text.specs.Numbers.{low, over}
use Rattle.reader.specs.declared.Said.{Said}
use Rattle.reader.specs.Read.{Five, Reading, five, parent_count, five_of, read_numbers, within, said_of, answer_of, parents_in, turns_in}
use Rattle.reader.specs.ReadLaws.{take_few, drop_few, said_five, answered_ok, answered_err, three, accepted_three, parents_written, turns_written}
use Rattle.reader.proofs.read_numbers.Goals as goal

written : (ns ps ts : List ℕ) (x : Said) → answer_of (read_numbers ns) ≡ Ok x → x.parents ≤ length ps → x.turns ≤ length ts
    → (over (map low (take x.parents (drop 3 ns))) ps ≡ parents_in (within (read_numbers ns) (length ps) (length ts)) ps)
    × (over (map low (drop (3 + x.parents) ns)) ts ≡ turns_in (within (read_numbers ns) (length ps) (length ts)) ts)
    × (Ok x ≡ answer_of (within (read_numbers ns) (length ps) (length ts)))
written ns ps ts x e room more =
    let some = answered_ok (read_numbers ns) e in
    let none : (said_of (read_numbers ns)).reason ≡ 0 = ap (λ (r : Reading). (said_of r).reason) some.1 in
    let enough : 3 ≤ length ns = accepted_three ns none in
    let f : Five = five_of (get_or ns 0 0) (get_or ns 1 0) (get_or ns 2 0) (drop 3 ns) in
    let told = said_five f (ap (λ (r : Reading). (said_of r).reason) (sym (three ns enough)) ∙ none) in
    let read : read_numbers ns ≡ five f = three ns enough ∙ told.2 in
    let found : answer_of (five f) ≡ Ok x = sym (ap answer_of read) ∙ e in
    let p : x.parents ≡ length f.inputs.parents = cc in
    let t : x.turns ≡ length f.schedule = cc in
    let xs : List ℕ = drop 3 ns in
    let k : ℕ = parent_count (get_or ns 0 0) (get_or ns 1 0) in
    let m : x.parents ≡ min k (length xs) = p ∙ length-take k xs in
    let first : length f.inputs.parents ≤ length ps = omega arith in
    let second : length f.schedule ≤ length ts = omega arith in
    let roomy : within (five f) (length ps) (length ts) ≡ five f = rw (le-leb (length f.inputs.parents) (length ps) first, le-leb (length f.schedule) (length ts) second) refl in
    let here : within (read_numbers ns) (length ps) (length ts) ≡ five f = ap (λ (r : Reading). within r (length ps) (length ts)) read ∙ roomy in (
      ap (λ (l : List ℕ). over (map low l) ps) (ap (λ (i : ℕ). take i xs) m ∙ take_few k xs) ∙ parents_written f told.0 ps first
          ∙ sym (ap (λ (r : Reading). parents_in r ps) here),
      ap (λ (l : List ℕ). over (map low l) ts) (sym (drop-drop x.parents 3 ns) ∙ ap (λ (i : ℕ). drop i xs) m ∙ drop_few k xs) ∙ turns_written f told.0 ts told.1 second
          ∙ sym (ap (λ (r : Reading). turns_in r ts) here),
      sym (ap answer_of here ∙ found),
    )

-- ---- a refusal, of the numbers or for the room, leaves the buffers

pub returns-in_err-said : goal.returns-in_err-said
returns-in_err-said c =
    let p = err_from_is_err_and c.from_residual.result c.from_residual.ensures.1 in
    let h = answered_err (read_numbers c.args.numbers.now) (sym c.check_numbers.ensures ∙ c.in_err-said.was) in
    record { value = rw (p.1, p.2) (sym (h.0 _ _)); parents_after = sym (h.1 _ _ _); schedule_after = sym (h.2 _ _ _) }

pub returns : goal.returns
returns c =
    let w =
    written c.args.numbers.now c.args.parents.now c.args.schedule.now c.in_ok-said.said (sym c.check_numbers.ensures ∙ c.in_ok-said.was)
    c.if-parents-said.false c.if-schedule-said.false in
    record { value = w.2; parents_after = c.write.ensures.parents_after ∙ w.0; schedule_after = c.write.ensures.schedule_after ∙ w.1 }
