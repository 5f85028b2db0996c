-- `reader::check` meets its contract: the fresh state is refused, or a turn is no task, or the five things are accepted.
use Rattle.std.proofs.Common.{◌≡◌, ◌≢◌, Ok, Err, ℕ, List, [], sym, ap, ◌∙◌, arith}
use Rattle.std.proofs.lemmas.Result.{err_from_is_err_and}
use Rattle.reason.specs.Checked.{checked_ok, checked_err, checked_positive}
use Rattle.schedule.specs.Passes.{unknown_at}
use Rattle.machine.specs.declared.Setup.{Setup}
use Rattle.machine.specs.declared.Fresh as code
use Rattle.machine.specs.Fresh.{Inputs, inputs_of, fresh_of, fresh_reason, told}
use Rattle.machine.specs.FreshLaws.{fresh_reason_lem}
use Rattle.reader.specs.Read.{Five}
use Rattle.reader.specs.ReadLaws.{given, checked_inputs, checked_unknown, checked_five}
use Rattle.reader.proofs.check.Goals as goal

-- the five things
abbrev said : Setup → List ℕ → List ℕ → Five
said setup parents turns = record { inputs = inputs_of setup parents [] []; schedule = turns }

-- what the fresh state answers
module _ (f : Five) (x : code.Fresh) (e : x ≡ told (fresh_of f.inputs)) where
  good : {u : Unit} → x.made ≡ Ok u → fresh_reason f.inputs ≡ 0
  good is = sym (fresh_reason_lem f.inputs) ∙ checked_ok _ (sym (ap (λ (x : code.Fresh). x.made) e) ∙ is)

  why : {k : ℕ} → x.made ≡ Err k → fresh_reason f.inputs ≡ k
  why is = sym (fresh_reason_lem f.inputs) ∙ checked_err _ (sym (ap (λ (x : code.Fresh). x.made) e) ∙ is)

  some : {k : ℕ} → x.made ≡ Err k → fresh_reason f.inputs ≢ 0
  some is = λ z. let more = checked_positive _ (sym (ap (λ (x : code.Fresh). x.made) e) ∙ is) in let same = why is in absurd (omega arith)

pub returns-in_err-fresh : goal.returns-in_err-fresh
returns-in_err-fresh c =
    let f = said c.args.setup c.args.parents.now c.args.turns.now in
    let p = err_from_is_err_and c.from_residual.result c.from_residual.ensures.1 in
    rw (p.1, p.2, checked_inputs f (some f c.fresh.result (c.fresh.ensures ∙ ap (λ (i : Inputs). told (fresh_of i)) (given c.args.setup c.args.parents.now _ _ _ c.of_parents.ensures.value)) c.in_err-fresh.was), why f c.fresh.result (c.fresh.ensures ∙ ap (λ (i : Inputs). told (fresh_of i)) (given c.args.setup c.args.parents.now _ _ _ c.of_parents.ensures.value)) c.in_err-fresh.was)

-- ---- where the fresh state is accepted

pub returns-then-place-turns : goal.returns-then-place-turns
returns-then-place-turns c =
    let f = said c.args.setup c.args.parents.now c.args.turns.now in
    let z = good f c.fresh.result (c.fresh.ensures ∙ ap (λ (i : Inputs). told (fresh_of i)) (given c.args.setup c.args.parents.now _ _ _ c.of_parents.ensures.value)) c.in_ok-fresh.was in
    let p : c.unknown_at-place.result ≡ unknown_at f.inputs.n f.schedule = c.unknown_at-place.ensures in
    rw (c.of_turn.ensures, checked_unknown f z (omega (arith, p)), p)

pub returns : goal.returns
returns c =
    let f = said c.args.setup c.args.parents.now c.args.turns.now in
    let z = good f c.fresh.result (c.fresh.ensures ∙ ap (λ (i : Inputs). told (fresh_of i)) (given c.args.setup c.args.parents.now _ _ _ c.of_parents.ensures.value)) c.in_ok-fresh.was in
    let p : c.unknown_at-place.result ≡ unknown_at f.inputs.n f.schedule = c.unknown_at-place.ensures in
    rw (checked_five f z (omega (arith, p)))
