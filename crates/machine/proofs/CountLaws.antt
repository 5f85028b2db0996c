-- Counts: a turn keeps a count or raises its task's by one, so that the least count never falls.
use Rattle.std.specs.Prelude.{◌≡◌, refl, ℕ, ◌+◌, ◌≤◌, ◌<◌, length, ◌⊎◌, Ok, Err}
use Rattle.std.proofs.Common.{inl, inr, ⊎_elim, arith, sym, subst}
use Rattle.std.proofs.Math.Decide.{ℕ_discrete}
use Rattle.counts.specs.CountsLaws.{KeptOrRaised}
use Rattle.lines.specs.declared.Task.{Task}
use Rattle.lines.specs.declared.Effect.{Effect}
use Rattle.lines.specs.declared.Write.{Write}
use Rattle.lines.specs.LineLaws.{Does, keeps, raises, stays, refused_7, refused_11, CountsArrivals}
use Rattle.machine.specs.declared.State.{State}
use Rattle.machine.specs.declared.Move.TheVariants.{Moved, Waited}
use Rattle.machine.specs.Answers.{Outcome}
use Rattle.machine.specs.Setters.{task_at, with_task, moves_at, waits_at}
use Rattle.machine.specs.Range.{shared_of, Valid}
use Rattle.machine.specs.Turn.{effect_of, written, answer_of, applied, turn_of}
use Rattle.machine.proofs.TurnLaws.{by_turn, effect_does, step_state, turn_constants, own_field, other_field, Full, refusal_acts}
use Rattle.machine.specs.RangeLaws.{range, present}
use Rattle.machine.specs.Least.{least}
use Rattle.machine.specs.LeastLaws.{least_le, least_attained}
use Rattle.lines.specs.declared.Act.TheVariants.{Refuses}
use Rattle.lines.specs.Common.{max_count}

-- ---- counts

-- a line keeps its task's count or raises it by one
pub kept_or_raised : (s : State) (p : ℕ) → KeptOrRaised (task_at s p).count (effect_of s p).task.count
kept_or_raised s p = go (effect_of s p) (effect_does s p)
  where
    go : (e : Effect) → Does (shared_of s) (task_at s p) e → KeptOrRaised (task_at s p).count e.task.count
    go _ (keeps c) = inl c
    go _ (raises l c) = inr c
    go _ stays = inl refl
    go _ (refused_7 k) = inl refl
    go _ (refused_11 l) = inl refl

module _ (s : State) (p q : ℕ) (here : p < length s.tasks) (u : Task) (w : Write) (c : KeptOrRaised (task_at s p).count u.count) where
  -- a move whose own task keeps or raises its count
  moved_count : KeptOrRaised (task_at s q).count (task_at (written w (with_task s p u)) q).count
  moved_count = go (ℕ_discrete q p)
    where
      count : Task → ℕ
      count x = x.count

      go : Dec (q ≡ p) → KeptOrRaised (task_at s q).count (task_at (written w (with_task s p u)) q).count
      go (yes e) = rw (e, own_field count (λ x y. (refl, refl)) w s p u here) c
      go (no ne) = inl (other_field count (λ x y. (refl, refl)) w s p q u ne)

  applied_count : (o : Outcome) → KeptOrRaised (task_at s q).count (task_at (applied o s p u w) q).count
  applied_count (Ok (Moved closed)) = moved_count
  applied_count (Ok Waited) = inl refl
  applied_count (Err k) = inl refl

-- a turn keeps every count or raises it by one
pub turn_counts : (s : State) (p q : ℕ) → KeptOrRaised (task_at s q).count (task_at (turn_of s p).state q).count
turn_counts s p q =
    by_turn (λ r. KeptOrRaised (task_at s q).count (task_at r.state q).count) s p (λ k. inl refl)
    (λ ok h.
    rw (step_state s p)
    (applied_count s p q (present s p ((range s ok).tasks p h).line_from) (effect_of s p).task (effect_of s p).write (kept_or_raised s p)
    (answer_of s p (effect_of s p))))

-- so no count falls, and none rises by more than one
pub turn_count : (s : State) (p q : ℕ) → (task_at s q).count ≤ (task_at (turn_of s p).state q).count
turn_count s p q = ⊎_elim (λ e. omega arith) (λ e. omega arith) (turn_counts s p q)

pub turn_rises : (s : State) (p q : ℕ) → (task_at (turn_of s p).state q).count ≤ (task_at s q).count + 1
turn_rises s p q = ⊎_elim (λ e. omega arith) (λ e. omega arith) (turn_counts s p q)

-- the least count never falls
pub turn_least : (s : State) (p : ℕ) → 0 < s.n → least s ≤ least (turn_of s p).state
turn_least s p h =
    let c = turn_constants s p in
    let a = least_attained (turn_of s p).state (rw c.n h) in
    omega (arith, a.2, turn_count s p a.0, least_le s a.0 (rw c.n at a.1))

-- ---- refusals; `RefusalLaws` tells what a turn has met in full

-- a line refuses 7, in the kinds 1 and 4, or 11, at a count's limit
line_refuses : (s : State) (p k : ℕ) → (effect_of s p).act ≡ Refuses k → ((k ≡ 7) × CountsArrivals s.kind) ⊎ ((k ≡ 11) × (max_count ≤ (task_at s p).count))
line_refuses s p k = go (effect_of s p) (effect_does s p)
  where
    go : (e : Effect) → Does (shared_of s) (task_at s p) e → e.act ≡ Refuses k → ((k ≡ 7) × CountsArrivals s.kind) ⊎ ((k ≡ 11) × (max_count ≤ (task_at s p).count))
    go _ (keeps c) e = let z : ◌≡◌ {A = ℕ} 0 1 = cc in absurd (omega arith)
    go _ (raises l c) e = let z : ◌≡◌ {A = ℕ} 0 1 = cc in absurd (omega arith)
    go _ stays e = let z : ◌≡◌ {A = ℕ} 0 1 = cc in absurd (omega arith)
    go _ (refused_7 one) e = let same : 7 ≡ k = cc in inl (sym same, one)
    go _ (refused_11 l) e = let same : 11 ≡ k = cc in inr (sym same, l)

-- in a state in range a turn of a known task is refused only 7, in the kinds 1 and 4, 11, at a count's limit, or 13, at a tally's
pub data Why (s : State) (p : ℕ) : ℕ → Type 0 where
  seven : CountsArrivals s.kind → Why s p 7
  eleven : max_count ≤ (task_at s p).count → Why s p 11
  thirteen : Full (effect_of s p).act (moves_at s p) (waits_at s p) → Why s p 13

pub turn_why : (s : State) (p k : ℕ) → Valid s → p < s.n → (turn_of s p).outcome ≡ Err k → Why s p k
turn_why s p k ok h e = go (refusal_acts s p k ok h e)
  where
    line : ((k ≡ 7) × CountsArrivals s.kind) ⊎ ((k ≡ 11) × (max_count ≤ (task_at s p).count)) → Why s p k
    line (inl w) = subst (Why s p) (sym w.0) (seven w.1)
    line (inr w) = subst (Why s p) (sym w.0) (eleven w.1)

    go : ((effect_of s p).act ≡ Refuses k) ⊎ ((k ≡ 13) × Full (effect_of s p).act (moves_at s p) (waits_at s p)) → Why s p k
    go (inl a) = line (line_refuses s p k a)
    go (inr w) = subst (Why s p) (sym w.0) (thirteen w.1)
