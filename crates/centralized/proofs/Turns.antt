-- Coupled states answer every turn alike, and are coupled after it.
use Rattle.std.specs.Prelude.{◌≡◌, refl, List, ◌≢◌, ℕ, ◌≤◌, ◌<◌, Ok, Err}
use Rattle.std.proofs.Common.{sym, ap, ◌∙◌, subst, arith}
use Rattle.std.proofs.Math.Decide.{dec_lt}
use Rattle.lines.specs.declared.Task.{Task}
use Rattle.lines.specs.declared.Effect.{Effect}
use Rattle.lines.specs.declared.Write.{Write}
use Rattle.lines.specs.Setters.{with_aim, with_own}
use Rattle.lines.specs.Increment.{increment_line}
use Rattle.lines.specs.Words.{sense_after}
use Rattle.machine.specs.declared.State.{State}
use Rattle.machine.specs.declared.Turned.{Turned}
use Rattle.machine.specs.declared.Move.TheVariants.{Moved, Waited}
use Rattle.machine.specs.Answers.{Outcome}
use Rattle.machine.specs.Setters.{task_at, with_task}
use Rattle.machine.specs.Tally.{tallied}
use Rattle.machine.specs.Least.{least}
use Rattle.machine.specs.LeastLaws.{least_same}
use Rattle.machine.specs.Turn.{effect_of, moved_to, answer_of, applied, turn_of}
use Rattle.machine.proofs.TurnLaws.{turn_unknown, turn_answer, turn_applied, turn_constants, moved_n, effect_1, effect_4}
use Rattle.machine.proofs.KeepLaws.{turn_valid}
use Rattle.barrier.specs.Moves.{keeps_all}
use Rattle.barrier.specs.Puts.{at_task, stored}
use Rattle.increment.proofs.Increment.{increment}
use Rattle.increment.proofs.Phases.{at_butler}
use Rattle.centralized.specs.Coupling.{Outside, Matching, Coupled, Pair}
use Rattle.centralized.proofs.Lines.{Wrote, nothing, arrived, turned, AlikeEffects, lines}

-- ---- what coupled states have in common

module _ {s₁ s₄ : State} (c : Coupled s₁ s₄) where
  -- a field that is neither aim nor own sense
  same_field : (f : Task → ℕ) → ((t : Task) (x y : ℕ) → f (with_own (with_aim t x) y) ≡ f t) → (q : ℕ) → q < s₄.n → f (task_at s₁ q) ≡ f (task_at s₄ q)
  same_field f apart q h = ap f (c.tasks q h).same ∙ apart (task_at s₄ q) (task_at s₁ q).aim (task_at s₁ q).own

  pub same_line : (q : ℕ) → q < s₄.n → (task_at s₁ q).line ≡ (task_at s₄ q).line
  same_line = same_field (λ t. t.line) (λ t x y. refl)

  pub same_count : (q : ℕ) → q < s₄.n → (task_at s₁ q).count ≡ (task_at s₄ q).count
  same_count = same_field (λ t. t.count) (λ t x y. refl)

  pub same_work : (q : ℕ) → q < s₄.n → (task_at s₁ q).work ≡ (task_at s₄ q).work
  same_work = same_field (λ t. t.work) (λ t x y. refl)

  pub same_left : (q : ℕ) → q < s₄.n → (task_at s₁ q).left ≡ (task_at s₄ q).left
  same_left = same_field (λ t. t.left) (λ t x y. refl)

  pub same_least : 0 < s₄.n → least s₁ ≡ least s₄
  same_least some = least_same s₁ s₄ c.n some same_count

-- ---- what a move writes

module _ {s₁ s₄ : State} (pair : Pair s₁ s₄) (p : ℕ) (h : p < s₄.n) where
  abbrev c : Coupled s₁ s₄
  c = pair.coupled

  known₁ : p < s₁.n
  known₁ = subst (λ (n : ℕ). p < n) (sym c.n) h

  -- while a task is at 15 every other is at 16
  others : (task_at s₄ p).line ≡ 15 → (q : ℕ) → q < s₄.n → q ≢ p → (task_at s₄ q).line ≤ 12 → ⊥
  others l q k ne low =
      let here = same_line c p h in
      let o = (at_butler pair.first.inv.phase p known₁ (omega arith) (omega arith)).1 in
      omega (arith, (o.others q (subst (λ (n : ℕ). q < n) (sym c.n) k) ne).at, same_line c q k)

  -- matching tasks stored
  module _ {t₁ t₄ : Task} (m : Matching t₁ t₄) where
    tasks_after : (q : ℕ) → q < s₄.n → Matching (task_at (with_task s₁ p t₁) q) (task_at (with_task s₄ p t₄) q)
    tasks_after q k =
        at_task (λ (t : Task). Matching (task_at (with_task s₁ p t₁) q) t) (stored s₄ p t₄ pair.valid h) q
        (λ e. at_task (λ (t : Task). Matching t t₄) (stored s₁ p t₁ pair.first.valid known₁) q (λ _. m) (λ ne. absurd (ne e)))
        (λ ne. at_task (λ (t : Task). Matching t (task_at s₄ q)) (stored s₁ p t₁ pair.first.valid known₁) q (λ e. absurd (ne e)) (λ _. c.tasks q k))

    outside_after : (sense : ℕ) → Outside sense t₄ → ((q : ℕ) → q < s₄.n → q ≢ p → (task_at s₄ q).line ≤ 12 → s₄.sense ≡ sense)
        → (q : ℕ) → q < s₄.n → Outside sense (task_at (with_task s₄ p t₄) q)
    outside_after sense own rest q k =
        at_task (Outside sense) (stored s₄ p t₄ pair.valid h) q
        (λ _. own) (λ ne low. c.outside q k low ∙ rest q k ne low)

    moved : {w₁ w₄ : Write} → Wrote s₄.n (task_at s₄ p).line w₁ w₄ → Outside (sense_after w₄ s₄.sense) t₄
        → Coupled (moved_to s₁ p t₁ w₁) (moved_to s₄ p t₄ w₄)
    moved nothing own = let k = c in let t = tasks_after in let o = outside_after s₄.sense own (λ q k ne low. refl) in search
    moved (arrived e) own = let k = c in let t = tasks_after in let o = outside_after s₄.sense own (λ q k ne low. refl) in search
    moved (turned {x} {y} l e) own = let k = c in let t = tasks_after in let o = outside_after y own (λ q k ne low. absurd (others l q k ne low)) in search

  -- ---- the turn

  abbrev e₁ : Effect
  e₁ = effect_of s₁ p

  abbrev e₄ : Effect
  e₄ = effect_of s₄ p

  alike : AlikeEffects s₄.n (task_at s₄ p).line s₄.sense e₁ e₄
  alike =
      subst (λ (e : Effect). AlikeEffects s₄.n (task_at s₄ p).line s₄.sense e e₄) (sym (effect_1 s₁ p pair.first.kind))
      (subst (λ (e : Effect). AlikeEffects s₄.n (task_at s₄ p).line s₄.sense (increment_line (task_at s₁ p).line s₁.n s₁.arrivals s₁.sense (task_at s₁ p)) e) (sym (effect_4 s₄ p pair.kind))
      (rw (c.n, c.sense, m.same) (lines s₄.n s₄.sense (task_at s₄ p) (task_at s₁ p).aim (task_at s₁ p).own m.aim (c.outside p h) s₁.arrivals s₄.arrivals c.arrivals)))
    where
      m : Matching (task_at s₁ p) (task_at s₄ p)
      m = c.tasks p h

  after_move : Coupled (moved_to s₁ p e₁.task e₁.write) (moved_to s₄ p e₄.task e₄.write)
  after_move = moved alike.task alike.write alike.outside

  answer : (turn_of s₁ p).outcome ≡ (turn_of s₄ p).outcome
  answer = turn_answer s₁ p pair.first.valid known₁ ∙ same ∙ sym (turn_answer s₄ p pair.valid h)
    where
      some : 0 < s₄.n
      some = omega arith

      same : answer_of s₁ p e₁ ≡ answer_of s₄ p e₄
      same = rw (alike.act, same_least c some, same_least after_move (rw (moved_n s₄ p e₄.task e₄.write) some), c.moves, c.waits)

  after : (o : Outcome) → Coupled (applied o s₁ p e₁.task e₁.write) (applied o s₄ p e₄.task e₄.write)
  after (Ok (Moved closed)) = let a = after_move in let m = ap (λ (l : List ℕ). tallied l p 1) a.moves in search
  after (Ok Waited) = let a = c in let w = ap (λ (l : List ℕ). tallied l p 1) a.waits in search
  after (Err k) = c

  coupled_after : Coupled (turn_of s₁ p).state (turn_of s₄ p).state
  coupled_after = rw (turn_applied s₁ p, turn_applied s₄ p, answer) (after (turn_of s₄ p).outcome)

-- ---- the law

-- a turn of any task: equal answers, and coupled states again
pub turns : {s₁ s₄ : State} → Pair s₁ s₄ → (p : ℕ) → ((turn_of s₁ p).outcome ≡ (turn_of s₄ p).outcome) × Pair (turn_of s₁ p).state (turn_of s₄ p).state
turns {s₁} {s₄} pair p = go (dec_lt p s₄.n)
  where
    next : Coupled (turn_of s₁ p).state (turn_of s₄ p).state → Pair (turn_of s₁ p).state (turn_of s₄ p).state
    next c = record { first = keeps_all increment s₁ p pair.first; valid = turn_valid s₄ p pair.valid; kind = (turn_constants s₄ p).kind ∙ pair.kind; coupled = c }

    go : Dec (p < s₄.n) → ((turn_of s₁ p).outcome ≡ (turn_of s₄ p).outcome) × Pair (turn_of s₁ p).state (turn_of s₄ p).state
    go (yes h) = (answer pair p h, next (coupled_after pair p h))
    go (no h) =
        let u₁ = turn_unknown s₁ p pair.first.valid (omega (arith, pair.coupled.n)) in
        let u₄ = turn_unknown s₄ p pair.valid (omega arith) in (
          ap (λ (r : Turned). r.outcome) u₁ ∙ sym (ap (λ (r : Turned). r.outcome) u₄),
          next (rw (u₁, u₄) pair.coupled),
        )
