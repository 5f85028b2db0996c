-- The claim of 02's P6 holds: a move at 11 leaves one move less and the task there, or it was the last one; and no other turn changes them.
use Rattle.std.specs.Prelude.{◌≡◌, refl, List, [], ◌∷◌, ◌≢◌, ℕ, ◌+◌, ◌-◌, ◌<◌, ltb}
use Rattle.std.proofs.Common.{sym, ap, ◌∙◌, subst, arith, le-ltb, ltb-true, ltb-false}
use Rattle.bitset.specs.ChoiceLaws.{by_test}
use Rattle.lines.specs.declared.Task.{Task}
use Rattle.lines.specs.declared.Effect.{Effect}
use Rattle.lines.specs.declared.Write.TheVariants.{Nothing}
use Rattle.lines.specs.Setters.{with_line, with_left}
use Rattle.lines.specs.Common as effect
use Rattle.machine.specs.declared.State.{State}
use Rattle.machine.specs.Setters.{task_at}
use Rattle.machine.specs.Range.{Valid}
use Rattle.machine.specs.Turn.{effect_of, turn_of}
use Rattle.machine.proofs.TurnLaws.{effect_keeps, turn_constants, turn_work}
use Rattle.machine.specs.RangeLaws.{range}
use Rattle.machine.proofs.KeepLaws.{turn_valid}
use Rattle.barrier.specs.View.{view_of}
use Rattle.barrier.specs.Barrier.{Able, AllLeft}
use Rattle.barrier.specs.Times.{move_at}
use Rattle.barrier.specs.TimesLaws.{Turns, moves, stays, turns}
use Rattle.barrier.specs.Work.{Stays, Works, WorkClaim}

-- the line and the moves left
abbrev place : Task → ℕ × ℕ
place t = (t.line, t.left)

-- the task p at 11, before a turn of q and then the turns ts
module _ (s : State) (p q : ℕ) (at : (task_at s p).line ≡ 11) (ts : List ℕ) where
  abbrev s' : State
  s' = (turn_of s q).state

  -- it is at 11 then, with so many moves made and so many left
  on : {made left : ℕ} → move_at p 11 s q ≡ made → place (task_at s' p) ≡ (11, left) → made + left ≡ (task_at s p).left
      → ((task_at s' p).line ≡ 11 → Works p s' ts) → Works p s (q ∷ ts)
  on m e sum rest =
      let w = rest (ap (λ (x : ℕ × ℕ). x.0) e) in
      record {
        moves = omega (arith, w.moves, m, sum, ap (λ (x : ℕ × ℕ). x.1) e);
        to = w.to;
        back = w.back ∙ turn_work s q p;
      }

  -- it has left 11, and there are no more turns
  off : move_at p 11 s q ≡ 1 → place (task_at s' p) ≡ (12, (task_at s p).work) → (task_at s p).left ≡ 1 → Stays p s' ts → Works p s (q ∷ ts)
  off m e last = go ts
    where
      go : (ts : List ℕ) → Stays p s' ts → Works p s (q ∷ ts)
      go [] away = record { moves = omega (arith, m); to = ap (λ (x : ℕ × ℕ). x.0) e; back = ap (λ (x : ℕ × ℕ). x.1) e }
      go (r ∷ ts) away = absurd (omega (arith, away.0, ap (λ (x : ℕ × ℕ). x.0) e))

one_turn : (s : State) (p q : ℕ) → Valid s → p < s.n → (at : (task_at s p).line ≡ 11) (ts : List ℕ) → Stays p (turn_of s q).state ts
    → ((task_at (turn_of s q).state p).line ≡ 11 → Works p (turn_of s q).state ts) → Works p s (q ∷ ts)
one_turn s p q ok known at ts away rest = go (turns s p q ok)
  where
    t : Task
    t = task_at s p

    -- what the own move leaves
    moved : Able s p → move_at p 11 s q ≡ 1 → (e : Effect) → effect_of s p ≡ e → place (task_at (turn_of s q).state p) ≡ place e.task → Works p s (q ∷ ts)
    moved able m e is =
        subst (λ (x : Effect). place (task_at (turn_of s q).state p) ≡ place x.task → Works p s (q ∷ ts)) (sym ((effect_keeps s p).own at able.1) ∙ is)
        (by_test (λ (x : Effect). place (task_at (turn_of s q).state p) ≡ place x.task → Works p s (q ∷ ts)) (ltb 1 t.left)
        (λ more same. on s p q at ts m (same ∙ ap (λ (l : ℕ). (l, t.left - 1)) at) (omega (arith, ltb-true 1 t.left more)) rest)
        (λ last same. off s p q at ts m same (omega (arith, ltb-false 1 t.left last, ((range s ok).tasks p known).left_from)) away))

    go : Turns s p q → Works p s (q ∷ ts)
    go (moves _ able m e) = moved able (m 11 ∙ rw at) (effect_of s p) refl (ap place e)
    go (stays m e) = on s p q at ts (m 11) (ap place e ∙ ap (λ (l : ℕ). (l, t.left)) at) (omega arith) rest

pub works : WorkClaim
works s ok p known at [] away = absurd (away at)
works s ok p known at (q ∷ ts) away =
    one_turn s p q ok known at ts away.1
    (λ still. works (turn_of s q).state (turn_valid s q ok) p (subst (λ (n : ℕ). p < n) (sym (turn_constants s q).n) known) still ts away.1)

-- after any turn a task that was off 11 has all its moves left, at 11 too: its own move leaves them, and no other turn changes them
pub all_left : (s : State) (p q : ℕ) → Valid s → AllLeft (view_of s) → p < s.n → (task_at s p).line ≢ 11 → (task_at (turn_of s q).state p).left ≡ (task_at s p).work
all_left s p q ok all known away = go (turns s p q ok)
  where
    go : Turns s p q → (task_at (turn_of s q).state p).left ≡ (task_at s p).work
    go (moves _ _ _ e) = ap (λ (t : Task). t.left) e ∙ (effect_keeps s p).left away ∙ all p known away
    go (stays _ e) = ap (λ (t : Task). t.left) e ∙ all p known away

-- 01: "Line 11, the task's own work, is one move and leads to 12": so it is where the work length is 1
pub one_move : (s : State) (p : ℕ) → Valid s → Able s p → (task_at s p).line ≡ 11 → (task_at s p).work ≡ 1 → effect_of s p ≡ effect.moves (with_line (task_at s p) 12) Nothing
one_move s p ok able at one =
    let mine = (range s ok).tasks p able.0 in
    let last : (task_at s p).left ≡ 1 = omega (arith, mine.left_from, mine.left_to_lem) in
    (effect_keeps s p).own at able.1 ∙ rw (le-ltb 1 (task_at s p).left (omega arith))
    (ap (λ (x : ℕ). effect.moves (with_left (with_line (task_at s p) 12) x) Nothing) (one ∙ sym last))
