-- When a turn is refused, and what it has met then.
use Rattle.std.specs.Prelude.{◌≡◌, refl, ◌⊎◌, ◌≢◌, ℕ, ◌<◌, Ok, Err}
use Rattle.std.proofs.Common.{sym, ap, subst, inl, inr, arith}
use Rattle.std.proofs.Math.Decide.{ℕ_discrete, dec_lt}
use Rattle.lines.specs.declared.Effect.{Effect}
use Rattle.lines.specs.declared.Act.{Act}
use Rattle.lines.specs.declared.Act.TheVariants.{Moves, Waits, Refuses}
use Rattle.lines.specs.Common.{max_count}
use Rattle.lines.specs.Rule.{counting_line}
use Rattle.lines.specs.LineLaws.{CountsArrivals}
use Rattle.lines.specs.CountingLaws.{AllArrived, arrived_counts, DoesAt, keeps, raises, stays, refused_7, refused_11}
use Rattle.machine.specs.declared.State.{State}
use Rattle.machine.specs.Answers.{Outcome}
use Rattle.machine.specs.Setters.{task_at, moves_at, waits_at}
use Rattle.machine.specs.Tally.{max_tally}
use Rattle.machine.specs.Range.{shared_of, check_state, Valid}
use Rattle.machine.specs.Turn.{effect_of, turn_of, reason_number}
use Rattle.machine.proofs.TurnLaws.{turn_checked, turn_unknown, effect_does_at, Full, refusal_acts}
use Rattle.machine.specs.RangeLaws.{range}
use Rattle.machine.proofs.TallyLaws.{moves_limit, waits_limit}

-- an answer that is no refusal
abbrev pub Goes : Outcome → Type 0
Goes (Ok how) = Unit {0}
Goes (Err k) = ⊥

-- what a turn of p that is refused has met, by its reason, in a state in range
pub data Met (s : State) (p : ℕ) : ℕ → Type 0 where
  -- 01: "the task is at 13 of kind 1 with arrivals already N"; 02, P7: "at 13 of kind 4 with arrivals 0"
  seven : (task_at s p).line ≡ 13 → AllArrived (shared_of s) → Met s p 7
  -- 01: "The turn would raise a count of 1,000,000"
  eleven : (task_at s p).line ≡ counting_line s.kind → (task_at s p).count ≡ max_count → Met s p 11
  -- 02, P3: "a turn that would raise a tally past its limit": a move the tally of moves, a wait that of waits
  thirteen_moves : (effect_of s p).act ≡ Moves → moves_at s p ≡ max_tally → Met s p 13
  thirteen_waits : (effect_of s p).act ≡ Waits → waits_at s p ≡ max_tally → Met s p 13

module _ (s : State) (p : ℕ) (ok : Valid s) (h : p < s.n) where
  -- a line's own refusal
  line_why : (k : ℕ) → (effect_of s p).act ≡ Refuses k → Met s p k
  line_why k = go (effect_of s p) (effect_does_at s p)
    where
      go : (e : Effect) → DoesAt (shared_of s) (task_at s p) e → e.act ≡ Refuses k → Met s p k
      go _ (keeps l c) e = let z : ◌≡◌ {A = ℕ} 0 1 = cc in absurd (omega arith)
      go _ (raises l low c) e = let z : ◌≡◌ {A = ℕ} 0 1 = cc in absurd (omega arith)
      go _ stays e = let z : ◌≡◌ {A = ℕ} 0 1 = cc in absurd (omega arith)
      go _ (refused_7 l all) e = let same : 7 ≡ k = cc in subst (Met s p) same (seven l all)
      go _ (refused_11 l high) e = let same : 11 ≡ k = cc in subst (Met s p) same (eleven l (omega (arith, ((range s ok).tasks p h).count)))

  full_why : (a : Act) → (effect_of s p).act ≡ a → Full a (moves_at s p) (waits_at s p) → Met s p 13
  full_why Moves a full = thirteen_moves a (omega (arith, moves_limit s p ok h))
  full_why Waits a full = thirteen_waits a (omega (arith, waits_limit s p ok h))
  full_why (Refuses k) a full = absurd full

  -- a turn of a known task is refused only for one of these
  pub turn_met : (k : ℕ) → (turn_of s p).outcome ≡ Err k → Met s p k
  turn_met k e = go (refusal_acts s p k ok h e)
    where
      go : ((effect_of s p).act ≡ Refuses k) ⊎ ((k ≡ 13) × Full (effect_of s p).act (moves_at s p) (waits_at s p)) → Met s p k
      go (inl a) = line_why k a
      go (inr w) = subst (Met s p) (sym w.0) (full_why (effect_of s p).act refl w.1)

pub turn_refusals : (s : State) (p k : ℕ) → Valid s → p < s.n → (turn_of s p).outcome ≡ Err k → (k ≡ 7) ⊎ ((k ≡ 11) ⊎ (k ≡ 13))
turn_refusals s p k ok h e = go (turn_met s p ok h k e)
  where
    go : {j : ℕ} → Met s p j → (j ≡ 7) ⊎ ((j ≡ 11) ⊎ (j ≡ 13))
    go (seven l all) = inl refl
    go (eleven l c) = inr (inl refl)
    go (thirteen_moves a m) = inr (inr refl)
    go (thirteen_waits a w) = inr (inr refl)

-- no turn, of any state, is refused 0
pub never_0 : (s : State) (p : ℕ) → (turn_of s p).outcome ≢ Err 0
never_0 s p = split (ℕ_discrete (check_state s) 0) (dec_lt p s.n)
  where
    no_reason : (◌≡◌ {A = ℕ} 0 7) ⊎ ((◌≡◌ {A = ℕ} 0 11) ⊎ (◌≡◌ {A = ℕ} 0 13)) → ⊥
    no_reason (inl e) = omega arith
    no_reason (inr (inl e)) = omega arith
    no_reason (inr (inr e)) = omega arith

    split : Dec (check_state s ≡ 0) → Dec (p < s.n) → (turn_of s p).outcome ≢ Err 0
    split (yes ok) (yes h) = λ e. no_reason (turn_refusals s p 0 ok h e)
    split (yes ok) (no h) = rw (turn_unknown s p ok (omega arith)) (λ e. let z : ◌≡◌ {A = ℕ} 9 0 = cc in omega arith)
    split (no bad) _ = rw (turn_checked s p bad) (λ e. bad cc)

-- so it goes where none of them applies
pub turn_goes : (s : State) (p : ℕ) → Valid s → p < s.n → (task_at s p).count < max_count → moves_at s p < max_tally → waits_at s p < max_tally
    → (CountsArrivals s.kind → reason_number (turn_of s p).outcome ≢ 7) → Goes (turn_of s p).outcome
turn_goes s p ok h low room_m room_w none = go (turn_of s p).outcome refl
  where
    because : {k : ℕ} → Met s p k → (turn_of s p).outcome ≡ Err k → ⊥
    because (seven l all) e = none (arrived_counts (shared_of s) all) (ap reason_number e)
    because (eleven l c) e = omega arith
    because (thirteen_moves a m) e = omega arith
    because (thirteen_waits a w) e = omega arith

    go : (o : Outcome) → (turn_of s p).outcome ≡ o → Goes o
    go (Ok how) e = tt
    go (Err k) e = absurd (because (turn_met s p ok h k e) e)

-- 7 at a turn of a known task, in a state in range, is the line's own
pub seven_acts : (s : State) (p : ℕ) → Valid s → p < s.n → reason_number (turn_of s p).outcome ≡ 7 → (effect_of s p).act ≡ Refuses 7
seven_acts s p ok h = go (turn_of s p).outcome refl
  where
    line : (k : ℕ) → k ≡ 7 → ((effect_of s p).act ≡ Refuses k) ⊎ ((k ≡ 13) × Full (effect_of s p).act (moves_at s p) (waits_at s p)) → (effect_of s p).act ≡ Refuses 7
    line k is (inl a) = rw (← is) a
    line k is (inr w) = absurd (omega (arith, w.0))

    go : (o : Outcome) → (turn_of s p).outcome ≡ o → reason_number o ≡ 7 → (effect_of s p).act ≡ Refuses 7
    go (Ok how) e z = absurd (omega arith)
    go (Err k) e z = line k z (refusal_acts s p k ok h e)

-- and so all have arrived
pub seven_arrived : (s : State) (p : ℕ) → Valid s → reason_number (turn_of s p).outcome ≡ 7 → AllArrived (shared_of s)
seven_arrived s p ok = split (dec_lt p s.n)
  where
    all : (k : ℕ) → k ≡ 7 → Met s p k → AllArrived (shared_of s)
    all _ e (seven l arrived) = arrived
    all _ e (eleven l c) = absurd (omega arith)
    all _ e (thirteen_moves a m) = absurd (omega arith)
    all _ e (thirteen_waits a w) = absurd (omega arith)

    split : Dec (p < s.n) → reason_number (turn_of s p).outcome ≡ 7 → AllArrived (shared_of s)
    split (yes h) = λ e. all 7 refl (line_why s p ok h 7 (seven_acts s p ok h e))
    split (no h) = rw (turn_unknown s p ok (omega arith)) (λ e. absurd (omega arith))

-- which happens in the kinds 1 and 4 alone
pub seven_arrives : (s : State) (p : ℕ) → Valid s → reason_number (turn_of s p).outcome ≡ 7 → CountsArrivals s.kind
seven_arrives s p ok e = arrived_counts (shared_of s) (seven_arrived s p ok e)

-- 13: a move meets it where its task's tally of moves is at the limit, a wait where its tally of waits is, and neither for the other
pub turn_13 : (s : State) (p : ℕ) → Valid s → p < s.n → (turn_of s p).outcome ≡ Err 13
    → (((effect_of s p).act ≡ Moves) × (moves_at s p ≡ max_tally)) ⊎ (((effect_of s p).act ≡ Waits) × (waits_at s p ≡ max_tally))
turn_13 s p ok h e = go 13 refl (turn_met s p ok h 13 e)
  where
    go : (k : ℕ) → k ≡ 13 → Met s p k
        → (((effect_of s p).act ≡ Moves) × (moves_at s p ≡ max_tally)) ⊎ (((effect_of s p).act ≡ Waits) × (waits_at s p ≡ max_tally))
    go _ k (seven l all) = absurd (omega arith)
    go _ k (eleven l c) = absurd (omega arith)
    go _ k (thirteen_moves a m) = inl (a, m)
    go _ k (thirteen_waits a w) = inr (a, w)
