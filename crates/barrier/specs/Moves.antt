-- Turns over views, for every barrier: what a turn that moves leaves, and that every other leaves the view.
use Rattle.std.specs.Prelude.{◌≡◌, refl, ◌≢◌, ℕ, ◌<◌, ltb, Ok, Err}
use Rattle.std.proofs.Common.{sym, ap, ◌∙◌, subst}
use Rattle.std.proofs.Math.Decide.{ℕ_discrete}
use Rattle.bitset.specs.ChoiceLaws.{by_test}
use Rattle.lines.specs.declared.Task.{Task}
use Rattle.lines.specs.declared.Effect.{Effect}
use Rattle.lines.specs.Setters.{with_toggle, with_flag}
use Rattle.machine.specs.declared.State.{State}
use Rattle.machine.specs.declared.Move.TheVariants.{Moved, Waited}
use Rattle.machine.specs.Answers.{Outcome}
use Rattle.machine.specs.Setters.{task_at}
use Rattle.machine.specs.Fresh.{Inputs, fresh_state}
use Rattle.machine.specs.FreshLaws as laws
use Rattle.machine.specs.Range.{Valid}
use Rattle.machine.specs.Turn.{effect_of, turn_of}
use Rattle.machine.proofs.TurnLaws.{effect_rule, effect_keeps, turn_makes, refused_still, waited_tallied, moved_tallied, turn_constants, constants_written, own_field, other_field}
use Rattle.machine.specs.RangeLaws.{range, present}
use Rattle.machine.proofs.KeepLaws.{turn_valid}
use Rattle.barrier.specs.View.{View, view_of, effect_at}
use Rattle.barrier.specs.Barrier.{Able, moved, AllLeft, Holds, Barrier}

-- a turn that is answered moved is one of an able task
pub moved_able : (s : State) (p c : ℕ) → (turn_of s p).outcome ≡ Ok (Moved c) → Able s p
moved_able s p c e = let m = turn_makes s p (Moved c) e in (m.known, m.act)

-- what is shown of the view that a move leaves, and of the view before, is shown of the view after every turn: the view has no tallies
pub by_move {ℓ} : (P : View → Type ℓ) (s : State) (p : ℕ) → P (view_of s) → ((c : ℕ) → (turn_of s p).outcome ≡ Ok (Moved c) → P (view_of (moved s p)))
    → P (view_of (turn_of s p).state)
by_move P s p same moves = go (turn_of s p).outcome refl
  where
    go : (o : Outcome) → (turn_of s p).outcome ≡ o → P (view_of (turn_of s p).state)
    go (Ok (Moved c)) e = subst (λ (x : State). P (view_of x)) (sym (moved_tallied s p c e)) (moves c e)
    go (Ok Waited) e = subst (λ (x : State). P (view_of x)) (sym (waited_tallied s p e)) same
    go (Err k) e = subst (λ (x : State). P (view_of x)) (sym (refused_still s p k e)) same

-- after a move the own task is the effect's, and every other as it was, but for toggles and flags, which a move of another task may write
module _ {A : Type 0} (f : Task → A) (apart : (t : Task) (x : ℕ) → (f (with_toggle t x) ≡ f t) × (f (with_flag t x) ≡ f t))
    (s : State) (p : ℕ) (ok : Valid s) (able : Able s p) where
  pub own_after : f (task_at (moved s p) p) ≡ f (effect_of s p).task
  own_after = own_field f apart (effect_of s p).write s p (effect_of s p).task (present s p ((range s ok).tasks p able.0).line_from)

  pub other_after : (q : ℕ) → q ≢ p → f (task_at (moved s p) q) ≡ f (task_at s q)
  other_after q ne = other_field f apart (effect_of s p).write s p q (effect_of s p).task ne

-- who can move is told by the kind and the view
pub able_view : (s s' : State) (q : ℕ) → s'.kind ≡ s.kind → view_of s' ≡ view_of s → Able s q → Able s' q
able_view s s' q k v a = (
  subst (λ (x : View). q < x.n) (sym v) a.0,
  ap (λ (x : Effect). x.act) (effect_rule s' q) ∙ ap (λ (x : ℕ). (effect_at x (view_of s') q).act) k ∙ ap (λ (x : View). (effect_at s.kind x q).act) v
      ∙ ap (λ (x : Effect). x.act) (sym (effect_rule s q)) ∙ a.1,
)

-- ---- the moves left

-- a fresh state has them all
pub fresh_left : (i : Inputs) → AllLeft (view_of (fresh_state i))
fresh_left i q h off = laws.fresh_left i q h

-- a move at 11 that does not stay there sets them back, and no other line changes them
left_own : (s : State) (p : ℕ) → AllLeft (view_of s) → Able s p → (effect_of s p).task.line ≢ 11 → (effect_of s p).task.left ≡ (effect_of s p).task.work
left_own s p all a = go (ℕ_discrete (task_at s p).line 11)
  where
    Back : Effect → Type 0
    Back e = e.task.line ≢ 11 → e.task.left ≡ e.task.work

    go : Dec ((task_at s p).line ≡ 11) → Back (effect_of s p)
    go (yes l) = subst Back (sym ((effect_keeps s p).own l a.1)) (by_test Back (ltb 1 (task_at s p).left) (λ _ off. absurd (off l)) (λ _ _. refl))
    go (no ne) = λ _. (effect_keeps s p).left ne ∙ all p a.0 ne ∙ sym (effect_keeps s p).length

left_after : (s : State) (p : ℕ) → Valid s → AllLeft (view_of s) → Able s p → AllLeft (view_of (moved s p))
left_after s p ok all a q h = go (ℕ_discrete q p)
  where
    Back : ℕ × ℕ × ℕ → Type 0
    Back x = x.0 ≢ 11 → x.1 ≡ x.2

    parts : Task → ℕ × ℕ × ℕ
    parts t = (t.line, t.left, t.work)

    known : q < s.n
    known = subst (λ (n : ℕ). q < n) (constants_written (effect_of s p).write s p (effect_of s p).task).n h

    go : Dec (q ≡ p) → Back (parts (task_at (moved s p) q))
    go (yes e) = rw e (subst Back (sym (own_after parts (λ t x. (refl, refl)) s p ok a)) (left_own s p all a))
    go (no ne) = subst Back (sym (other_after parts (λ t x. (refl, refl)) s p ok a q ne)) (all q known)

-- ---- the law

-- every turn keeps what a barrier's invariant says of a state
pub keeps_all : {kind : ℕ} (b : Barrier kind) (s : State) (p : ℕ) → Holds kind b.Inv s → Holds kind b.Inv (turn_of s p).state
keeps_all b s p i =
    record {
      valid = turn_valid s p i.valid;
      kind = (turn_constants s p).kind ∙ i.kind;
      inv = by_move b.Inv s p i.inv (λ c e. b.keeps s p i (moved_able s p c e));
      left = by_move AllLeft s p i.left (λ c e. left_after s p i.valid i.left (moved_able s p c e));
    }
