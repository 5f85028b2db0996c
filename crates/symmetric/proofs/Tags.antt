-- What the tags tell of the counts, by the invariant.
use Rattle.std.specs.Prelude.{◌≡◌, ◌≢◌, ℕ, ◌+◌, ◌%◌, ◌≤◌, ◌<◌, eqb}
use Rattle.std.proofs.Common.{sym, ◌∙◌, ap, arith}
use Rattle.std.proofs.Math.Nat.{mod-add-mod}
use Rattle.std.proofs.Math.Decide.{ℕ_discrete}
use Rattle.setup.specs.RangeLaws.{below, modulus_3}
use Rattle.machine.specs.declared.State.{State}
use Rattle.machine.specs.Setters.{task_at}
use Rattle.machine.specs.RangeLaws.{InRange, range}
use Rattle.symmetric.specs.Modulo.{next_injective, next_other, next_next_other}
use Rattle.barrier.specs.Barrier.{Holds}
use Rattle.symmetric.specs.Invariant.{Inv}

module _ (s : State) (i : Holds 0 Inv s) where
  in_range : InRange s
  in_range = range s i.valid

  -- R is 3 or more
  pub three : 3 ≤ s.modulus
  three = modulus_3 s.modulus (rw i.kind at in_range.modulus)

  -- the tag of a task one ahead is the next
  next_tag_lem : (q r : ℕ) → q < s.n → r < s.n → (task_at s q).count + 1 ≡ (task_at s r).count → ((task_at s q).tag + 1) % s.modulus ≡ (task_at s r).tag
  next_tag_lem q r hq hr e =
      ap (λ (x : ℕ). (x + 1) % s.modulus) (i.inv.alone q hq).tag
      ∙ mod-add-mod (task_at s q).count s.modulus 1
      ∙ ap (λ (x : ℕ). x % s.modulus) e
      ∙ sym (i.inv.alone r hr).tag

  old_below : (q : ℕ) → q < s.n → (task_at s q).old < s.modulus
  old_below q h = below (eqb s.kind 0) s.modulus (task_at s q).old (rw i.kind) (in_range.tasks q h).old

  -- Iq345: at 13 and 14 the tag of a task behind is the old one
  pub behind_tag : (q r : ℕ) → q < s.n → r < s.n → 13 ≤ (task_at s q).line → (task_at s r).count < (task_at s q).count → (task_at s r).tag ≡ (task_at s q).old
  behind_tag q r hq hr l b =
      next_injective s.modulus (task_at s r).tag (task_at s q).old
      (below (eqb s.kind 0) s.modulus (task_at s r).tag (rw i.kind) (in_range.tasks r hr).tag)
      (old_below q hq)
      (next_tag_lem r q hr hq (omega (arith, (i.inv.beside q r hq hr).near)) ∙ (i.inv.alone q hq).old l)

  -- and the tag of any other is not: it is the next of the old one, or the one after that
  pub ahead_tag : (q r : ℕ) → q < s.n → r < s.n → 13 ≤ (task_at s q).line → (task_at s q).count ≤ (task_at s r).count → (task_at s r).tag ≢ (task_at s q).old
  ahead_tag q r hq hr l b e = go (ℕ_discrete (task_at s r).count (task_at s q).count)
    where
      go : Dec ((task_at s r).count ≡ (task_at s q).count) → ⊥
      go (yes same) =
          next_other s.modulus (task_at s q).old three (old_below q hq)
          (sym ((i.inv.alone q hq).old l) ∙ (i.inv.alone q hq).tag ∙ ap (λ (x : ℕ). x % s.modulus) (sym same) ∙ sym (i.inv.alone r hr).tag ∙ e)
      go (no other) =
          next_next_other s.modulus (task_at s q).old three (old_below q hq)
          (ap (λ (x : ℕ). (x + 1) % s.modulus) (sym ((i.inv.alone q hq).old l))
          ∙ next_tag_lem q r hq hr (omega (arith, (i.inv.beside r q hr hq).near))
          ∙ e)
