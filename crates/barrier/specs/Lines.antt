-- The moves of a line, for every barrier: what is to be shown of an effect that moves, by the parts that lines are made of.
use Rattle.std.specs.Prelude.{◌≡◌, refl, Bool, true, ◌≢◌, ℕ, ◌-◌, ◌≤◌, ◌<◌, eqb, ltb}
use Rattle.std.proofs.Common.{sym, subst, arith, eqb-true, ltb-true}
use Rattle.std.proofs.lemmas.Bool.{eqb-false}
use Rattle.bitset.specs.ChoiceLaws.{by_test}
use Rattle.lines.specs.declared.Task.{Task}
use Rattle.lines.specs.declared.Effect.{Effect}
use Rattle.lines.specs.declared.Act.TheVariants.{Moves}
use Rattle.lines.specs.declared.Write.TheVariants.{Nothing}
use Rattle.lines.specs.Setters.{with_line, with_looked, with_left}
use Rattle.lines.specs.Common.{max_count, moves, waits, refuses, awaits, counts, work, choose}

module _ (P : Effect → Type 0) where
  abbrev pub Moving : Effect → Type 0
  Moving e = e.act ≡ Moves → P e

  -- a wait and a refusal are no moves
  pub no_wait : (t : Task) → Moving (waits t)
  no_wait t e = let z : ◌≡◌ {A = ℕ} 0 1 = cc in absurd (omega arith)

  pub no_refusal : (k : ℕ) (t : Task) → Moving (refuses k t)
  no_refusal k t e = let z : ◌≡◌ {A = ℕ} 0 1 = cc in absurd (omega arith)

  -- what is to be shown of own work, whatever its length: the task is at 11 or 12 then, with other moves left
  abbrev pub Worked : Task → Type 0
  Worked t = (to left : ℕ) → 11 ≤ to → to ≤ 12 → P (moves (with_left (with_line t to) left) Nothing)

  pub if_worked : (t : Task) → t.line ≡ 11 → Worked t → Moving (work t)
  if_worked t e h =
      by_test Moving (ltb 1 t.left)
      (λ _ _. subst (λ (l : ℕ). P (moves (with_left (with_line t l) (t.left - 1)) Nothing)) (sym e) (h 11 (t.left - 1) (omega arith) (omega arith)))
      (λ _ _. h 12 t.work (omega arith) (omega arith))

  -- an await moves where its condition holds
  pub if_awaited : (b : Bool) (t : Task) {e : Effect} → (b ≡ true → P e) → Moving (awaits b t e)
  if_awaited b t h = by_test Moving b (λ c _. h c) (λ _. no_wait t)

  -- a count rises below its limit
  pub if_counted : (t : Task) {e : Effect} → (t.count < max_count → P e) → Moving (counts t e)
  if_counted t h = by_test Moving (ltb t.count max_count) (λ l _. h (ltb-true t.count max_count l)) (λ _. no_refusal 11 t)

  -- 13 of symmetric and tree, with the empty list and another
  pub if_chosen : (exit k : ℕ) (t : Task) → (t.list ≡ 0 → P (moves (with_line t exit) Nothing)) → (t.list ≢ 0 → P (moves (with_line (with_looked t k) 14) Nothing))
      → Moving (choose exit k t)
  if_chosen exit k t none some =
      by_test Moving (eqb t.list 0) (λ z _. none (eqb-true t.list 0 z)) (λ z _. some (eqb-false t.list 0 z))

-- own work never waits
pub work_moves : (t : Task) → (work t).act ≡ Moves
work_moves t = by_test (λ (e : Effect). e.act ≡ Moves) (ltb 1 t.left) (λ _. refl) (λ _. refl)
