-- `print_text` meets its contract: what the reader has told of the text.
use Rattle.std.proofs.Common.{◌≡◌, refl, Result, Ok, Err, true, ℕ, List, [], ◌≤◌, length, take, drop, replicate, sym, ap, ◌∙◌, subst, arith, take_at}
use Rattle.std.proofs.lemmas.List.{length-replicate}
use Rattle.schedule.specs.Passes.{all_tasks}
use Rattle.machine.specs.declared.State.{State}
use Rattle.machine.specs.declared.Fresh.{Fresh}
use Rattle.machine.specs.declared.Setup.{Setup}
use Rattle.machine.specs.Fresh.{Inputs, inputs_of, fresh_state, fresh_of, told as told_fresh}
use Rattle.machine.specs.FreshLaws.{fresh_accepted, fresh_valid}
use Rattle.machine.specs.Range.{Valid}
use Rattle.reader.specs.declared.Said.{Said}
use Rattle.reason.specs.declared.PlacedRefusal.{PlacedRefusal}
use Rattle.reader.specs.Read.{Five, Reading, five, read_of, said_of, answer_of, parents_in, turns_in, read_within}
use Rattle.reader.specs.ReadLaws.{Accepted, given, inputs_said, Reads, reads, answered_ok, answered_refused, read_roomy}
use Rattle.sheet_text.specs.Print.{printed, sheet_of, refusal_of}
use Rattle.sheet_text.specs.Steps.{table_from}
use Rattle.sheet_text.specs.StepsLaws.{table_of}
use Rattle.sheet_text.proofs.print_text.Goals as goal

-- what the buffers were
abbrev zeros : List ℕ
zeros = replicate 64 0

abbrev more : List ℕ
more = replicate 32768 0

-- they have room
roomy : (text : List ℕ) → read_within text (length zeros) (length more) ≡ read_of text
roomy text = read_roomy text (length zeros) (length more) (omega (arith, length-replicate {A = ℕ} 64 0)) (omega (arith, length-replicate {A = ℕ} 32768 0))

-- the sheet of a text is what is printed of what it says
sheet_is : (text : List ℕ) → sheet_of text ≡ printed (read_of text)
unfolding sheet_of
sheet_is text = refl

-- ---- what the reader has told

same_said : (a b : Said) → ◌≡◌ {A = Result Said PlacedRefusal} (Ok a) (Ok b) → b ≡ a
same_said a b e = cc

module _ (text : List ℕ) (x : Result Said PlacedRefusal) (answer : x ≡ answer_of (read_within text (length zeros) (length more))) where
  told : x ≡ answer_of (read_of text)
  told = answer ∙ ap answer_of (roomy text)

  refuses : (r : PlacedRefusal) → x ≡ Err r → refusal_of r.refusal r.place ≡ sheet_of text
  refuses r is = sym (sheet_is text ∙ ap printed (answered_refused (read_of text) (sym told ∙ is)))

  -- where nothing is refused
  module _ (s : Said) (is : x ≡ Ok s) (ps ts : List ℕ) (a : ps ≡ parents_in (read_within text (length zeros) (length more)) zeros) (b : ts ≡ turns_in (read_within text (length zeros) (length more)) more) where
    said : Reads text
    said = reads text (ap (λ (r : Reading). (said_of r).reason) (answered_ok (read_of text) (sym told ∙ is)).1)

    abbrev f : Five
    f = said.things

    found : answer_of (five f) ≡ Ok s
    found = ap answer_of (sym said.read) ∙ sym told ∙ is

    first : s.parents ≡ length f.inputs.parents
    first = ap (λ (x : Said). x.parents) (same_said _ s found)

    count : s.turns ≡ length f.schedule
    count = ap (λ (x : Said). x.turns) (same_said _ s found)

    parents_filled : ps ≡ parents_in (five f) zeros
    parents_filled = a ∙ ap (λ (r : Reading). parents_in r zeros) (roomy text ∙ said.read)

    turns_filled : ts ≡ turns_in (five f) more
    turns_filled = b ∙ ap (λ (r : Reading). turns_in r more) (roomy text ∙ said.read)

    -- the buffers' first bytes
    its_parents : take s.parents ps ≡ f.inputs.parents
    its_parents = ap (take s.parents) parents_filled ∙ take_at f.inputs.parents (drop (length f.inputs.parents) zeros) s.parents (sym first)

    its_turns : take s.turns ts ≡ f.schedule
    its_turns = ap (take s.turns) turns_filled ∙ take_at f.schedule (drop (length f.schedule) more) s.turns (sym count)

    ok : Accepted f
    ok = said.ok

    setup_is : s.setup ≡ record { kind = f.inputs.kind; n = f.inputs.n; modulus = f.inputs.modulus }
    setup_is = ap (λ (x : Said). x.setup) (same_said _ s found)

    inputs_are : inputs_of s.setup (take s.parents ps) [] [] ≡ f.inputs
    inputs_are =
        ap (λ (x : Setup). inputs_of x (take s.parents ps) [] []) setup_is
        ∙ ap (λ (ps : List ℕ). inputs_of (record { kind = f.inputs.kind; n = f.inputs.n; modulus = f.inputs.modulus }) ps [] []) its_parents
        ∙ inputs_said f ok

    module _ (fresh : Fresh) (e : fresh ≡ told_fresh (fresh_of (inputs_of s.setup (take s.parents ps) [] []))) where
      fresh_is : fresh.state ≡ fresh_state f.inputs
      fresh_is = ap (λ (s : Fresh). s.state) (e ∙ ap (λ (i : Inputs). told_fresh (fresh_of i)) inputs_are) ∙ fresh_accepted f.inputs ok.reason

      valid : Valid fresh.state
      valid = subst Valid (sym fresh_is) (fresh_valid f.inputs ok.reason)

      few : length (take s.turns ts) ≤ 32768
      few = rw its_turns ok.few

      tasks : all_tasks fresh.state.n (take s.turns ts) ≡ true
      tasks = subst (λ (x : State). all_tasks x.n (take s.turns ts) ≡ true) (sym fresh_is) (rw its_turns ok.tasks)

      shown : table_from fresh.state (take s.turns ts) ≡ sheet_of text
      shown =
          sym (sheet_is text ∙ ap printed said.read ∙ table_of f ok.reason ∙ ap (λ (s : State). table_from s f.schedule) (sym fresh_is) ∙ ap (table_from fresh.state) (sym its_turns))

-- the fresh state, where no table but the parents is given
freshly : (s : Setup) (ps : List ℕ) (fresh : Fresh) {a b d : List ℕ} → fresh ≡ told_fresh (fresh_of (inputs_of s a b d)) → (a ≡ ps) × (b ≡ []) × (d ≡ [])
    → fresh ≡ told_fresh (fresh_of (inputs_of s ps [] []))
freshly s ps fresh e same = e ∙ ap (λ (i : Inputs). told_fresh (fresh_of i)) (given s ps _ _ _ same)

pub returns-in-Err : goal.returns-in-Err
returns-in-Err c = rw (← refuses c.args.text.now c.read.result c.read.ensures.value _ c.in-Err.is) c.refusal.ensures

pub invariant_of-begin : goal.invariant_of-begin
invariant_of-begin c =
    let r = c.read in
    record { valid = valid c.args.text.now r.result r.ensures.value c.in-Ok.said c.in-Ok.is r.new.parents r.new.schedule r.ensures.parents_after r.ensures.schedule_after c.fresh-fresh.result (freshly c.in-Ok.said.setup _ _ c.fresh-fresh.ensures c.of_parents-tables.ensures.value) }

pub print_run-requires : goal.print_run-requires
print_run-requires c =
    let r = c.read in (
      few c.args.text.now r.result r.ensures.value c.in-Ok.said c.in-Ok.is r.new.parents r.new.schedule r.ensures.parents_after r.ensures.schedule_after c.fresh-fresh.result (freshly c.in-Ok.said.setup _ _ c.fresh-fresh.ensures c.of_parents-tables.ensures.value),
      tasks c.args.text.now r.result r.ensures.value c.in-Ok.said c.in-Ok.is r.new.parents r.new.schedule r.ensures.parents_after r.ensures.schedule_after c.fresh-fresh.result (freshly c.in-Ok.said.setup _ _ c.fresh-fresh.ensures c.of_parents-tables.ensures.value),
    )

pub returns-in-Ok : goal.returns-in-Ok
returns-in-Ok c =
    let r = c.read in
    rw (← shown c.args.text.now r.result r.ensures.value c.in-Ok.said c.in-Ok.is r.new.parents r.new.schedule r.ensures.parents_after r.ensures.schedule_after c.fresh-fresh.result (freshly c.in-Ok.said.setup _ _ c.fresh-fresh.ensures c.of_parents-tables.ensures.value))
    c.print_run.ensures
