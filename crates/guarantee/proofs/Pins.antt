-- Pins: what the words of demand 3 and of P7's claim say, a second time and without them, over `fresh_of`, `turn_of`, `run_of` and `task_at`. Where a word is changed
-- so that the theorem would say less, these no longer follow. The pin of `CutInto` stands in schedule's StretchLaws, those of a session, of the tree's loop and of play-back's words
-- in their own crates.
use Rattle.std.proofs.Math.Path.{◌≡◌, refl, ap}
use Rattle.std.proofs.Common.{sym, ◌∙◌, subst, inl, inr, arith, add-zero, add-one, length-take, take-suc, take-take}
use mathlib.Core.List.{List, [], ◌∷◌, ◌++◌, flatten, append-nil}
use Rattle.std.specs.Prelude.{◌⊎◌, ◌≢◌, eqb, ltb, get_or, take, Ok, Err}
use Prim.Native.Nat.{ℕ, suc, ◌+◌, ◌≤◌, ◌<◌}
use Rattle.std.proofs.Math.Decide.{ℕ_discrete, dec_lt}
use Rattle.std.proofs.Math.ListN.{length}
use Rattle.std.proofs.Math.Seq.{take_all}
use borrow.Author.Tests.{eq-eqb, ne_eqb}
use Rattle.bitset.specs.Choice.{pick}
use Rattle.bitset.specs.ChoiceLaws.{by_test}
use Rattle.schedule.specs.Stretch.{CutInto}
use Rattle.schedule.specs.StretchLaws.{cut_pin}
use Rattle.machine.specs.declared.State.{State}
use Rattle.machine.specs.declared.Move.{Move}
use Rattle.machine.specs.Setters.{task_at}
use Rattle.machine.specs.Fresh.{Inputs, fresh_reason, fresh_of}
use Rattle.machine.specs.FreshLaws.{fresh_reason_lem}
use Rattle.machine.specs.Least.{least}
use Rattle.machine.specs.LeastLaws.{least_le, least_attained}
use Rattle.machine.specs.Turn.{turn_of}
use Rattle.machine.specs.Ready.{ready_of}
use Rattle.machine.proofs.TurnLaws.{refused_still}
use Rattle.runner.specs.declared.Ending.{Ending}
use Rattle.runner.specs.declared.Ending.TheVariants.{Done}
use Rattle.runner.specs.declared.Ran.{Ran}
use Rattle.runner.specs.Trace.{Stop, nothing, refusal, counted_stop, trace_of}
use Rattle.runner.specs.TraceLaws.{made_few, made_tasks, stopped_at, trace_n}
use Rattle.runner.specs.Run.{run_reason, ending_reason, unstopped, ending_of, run_of, log_after}
use Rattle.runner.specs.RunLaws.{run_accepts, run_refuses, run_not_11, Makes, all, stopped, run_makes}
use Rattle.guarantee.specs.Calls.{turn, run, Call, after_all, counted, counted_all, Reached, fresh, called, promised_in}
use Rattle.guarantee.specs.Answers.{answers}
use Rattle.guarantee.proofs.CountsDown.{counts_down_all}
use Rattle.guarantee.proofs.Guarantee.{guarantee}

-- ---- reached: "if an accepted fresh state gave it, or if a turn or a run, refused or not, got a reached state and returned it"

pub fresh_reached : (i : Inputs) → (fresh_of i).reason ≡ 0 → Reached (fresh_of i).state
fresh_reached i e = fresh i (sym (fresh_reason_lem i) ∙ e)

module _ (s : State) (r : Reached s) where
  pub turn_reached : (p : ℕ) → Reached (turn_of s p).state
  turn_reached p = called s r (turn p)

  pub run_reached : (schedule : List ℕ) (allowance : ℕ) (log : List ℕ) → Reached (run_of s schedule allowance log).state
  run_reached schedule allowance log = called s r (run schedule allowance log)

-- ---- the list: "each later one" gets "exactly what the last returned"

module _ (s : State) where
  pub all_none : after_all s [] ≡ s
  unfolding after_all
  all_none = refl

  pub all_turn : (p : ℕ) (cs : List Call) → after_all s (turn p ∷ cs) ≡ after_all (turn_of s p).state cs
  unfolding after_all
  all_turn p cs = refl

  pub all_run : (schedule : List ℕ) (allowance : ℕ) (log : List ℕ) (cs : List Call)
      → after_all s (run schedule allowance log ∷ cs) ≡ after_all (run_of s schedule allowance log).state cs
  unfolding after_all
  all_run schedule allowance log cs = refl

-- ---- the counted turns

pub counted_none : (s : State) → counted_all s [] ≡ []
unfolding counted_all
counted_none s = refl

module _ (s : State) (p : ℕ) (cs : List Call) where
  -- "the task of each single turn answered moved, waited
  pub counted_made : (how : Move) → (turn_of s p).outcome ≡ Ok how → counted_all s (turn p ∷ cs) ≡ p ∷ counted_all (turn_of s p).state cs
  unfolding counted_all
  counted_made how e = rw e

  -- or 11"
  pub counted_11 : (turn_of s p).outcome ≡ Err 11 → counted_all s (turn p ∷ cs) ≡ p ∷ counted_all s cs
  unfolding counted_all
  counted_11 e = rw (refused_still s p 11 e, e)

  -- "Nothing else counts."
  pub uncounted : (k : ℕ) → k ≢ 11 → (turn_of s p).outcome ≡ Err k → counted_all s (turn p ∷ cs) ≡ counted_all s cs
  unfolding counted_all
  uncounted k ne e = rw (refused_still s p k e, e, ne_eqb k 11 ne)

-- "for each run not refused as a whole the tasks of its schedule from the first on: no more than its allowance, none after one that the defined turn refuses, and that one only
-- if it is refused 11": as many as the run made, and one more where it ends with 11; a refused run makes none
module _ (s : State) (schedule : List ℕ) (allowance : ℕ) (log : List ℕ) where
  abbrev r : Ran
  r = run_of s schedule allowance log

  abbrev ts : List ℕ
  ts = take allowance schedule

  abbrev made : ℕ
  made = length (trace_of s ts).made

  -- how many counted turns a run has that makes so many and ends so
  abbrev reckoned : ℕ → ℕ → ℕ
  reckoned turns reason = turns + pick (eqb reason 11) 1 0

  -- the first of what the allowance leaves are the first of the schedule
  first : (m : ℕ) → m ≤ length ts → take m ts ≡ take m schedule
  first m h = take-take m allowance schedule (omega (arith, length-take allowance schedule))

  few : made ≤ length ts
  few = made_few s ts

  no_more : (k : ℕ) → k ≢ 11 → take made ts ++ [] ≡ take (reckoned made k) schedule
  no_more k ne = append-nil (take made ts) ∙ first made few ∙ rw (ne_eqb k 11 ne) (ap (λ (m : ℕ). take m schedule) (sym (add-zero made)))

  one_more : (p : ℕ) → (trace_of s ts).stop ≡ refusal p 11 → take made ts ++ p ∷ [] ≡ take (made + 1) schedule
  one_more p e =
      let at = stopped_at s ts p 11 e in
      ap (λ (q : ℕ). take made ts ++ q ∷ []) (sym at.named) ∙ sym (take-suc ts made 0 at.fewer)
      ∙ first (suc made) (omega (arith, at.fewer)) ∙ ap (λ (m : ℕ). take m schedule) (sym (add-one made))

  stops : (stop : Stop) → (trace_of s ts).stop ≡ stop
      → take made ts ++ counted_stop stop ≡ take (reckoned made (ending_reason (ending_of stop (unstopped allowance (length schedule))))) schedule
  stops nothing e =
      by_test (λ (x : Ending). take made ts ++ [] ≡ take (reckoned made (ending_reason x)) schedule) (ltb allowance (length schedule))
      (λ _. no_more 0 (omega arith)) (λ _. no_more 0 (omega arith))
  stops (refusal p k) e = go (ℕ_discrete k 11)
    where
      go : Dec (k ≡ 11) → take made ts ++ pick (eqb k 11) (p ∷ []) [] ≡ take (reckoned made k) schedule
      go (yes is) = rw (eq-eqb k 11 is) (one_more p (e ∙ ap (refusal p) is))
      go (no ne) = subst (λ (l : List ℕ). take made ts ++ l ≡ take (reckoned made k) schedule) (sym (rw (ne_eqb k 11 ne))) (no_more k ne)

  pub counted_run_lem : (cs : List Call) → counted_all s (run schedule allowance log ∷ cs) ≡ take (reckoned r.turns (ending_reason r.ending)) schedule ++ counted_all r.state cs
  unfolding counted_all
  counted_run_lem cs = ap (λ (l : List ℕ). l ++ counted_all r.state cs) (go (ℕ_discrete reason 0))
    where
      reason : ℕ
      reason = run_reason s schedule allowance (length log)

      go : Dec (reason ≡ 0) → counted s (run schedule allowance log) ≡ take (reckoned r.turns (ending_reason r.ending)) schedule
      go (yes e) = rw (eq-eqb reason 0 e, run_accepts s schedule allowance log e, made_tasks s ts) (stops (trace_of s ts).stop refl)
      go (no ne) = rw (ne_eqb reason 0 ne, run_refuses s schedule allowance log ne, ne_eqb reason 11 (run_not_11 s schedule allowance (length log)))

-- ---- demand 3

module _ (s : State) (reached : Reached s) where
  -- "no two counts differ by more than one"
  pub within_one : (q r : ℕ) → q < s.n → r < s.n
      → ((task_at s q).count ≡ (task_at s r).count) ⊎ (((task_at s q).count ≡ (task_at s r).count + 1) ⊎ ((task_at s r).count ≡ (task_at s q).count + 1))
  unfolding after_all
  within_one q r hq hr = go (ℕ_discrete (task_at s q).count (task_at s r).count) (dec_lt (task_at s q).count (task_at s r).count)
    where
      close : (q r : ℕ) → q < s.n → r < s.n → (task_at s q).count ≤ (task_at s r).count + 1
      close = (guarantee s reached []).0

      go : Dec ((task_at s q).count ≡ (task_at s r).count) → Dec ((task_at s q).count < (task_at s r).count)
          → ((task_at s q).count ≡ (task_at s r).count) ⊎ (((task_at s q).count ≡ (task_at s r).count + 1) ⊎ ((task_at s r).count ≡ (task_at s q).count + 1))
      go (yes e) _ = inl e
      go (no ne) (yes below) = inr (inr (omega (arith, close r q hr hq)))
      go (no ne) (no above) = inr (inl (omega (arith, close q r hq hr)))

  -- "a task at its own work is never ahead"
  pub never_ahead : (q r : ℕ) → q < s.n → r < s.n → (task_at s q).line ≡ 11 → (task_at s r).count < (task_at s q).count → ⊥
  unfolding after_all
  never_ahead q r hq hr at ahead = omega (arith, (guarantee s reached []).1 q r hq hr at)

  -- "2 × M stretches that each name every task raise the least count": here they are those of one run that makes all its turns. Each task is at some place of each stretch;
  -- c is the least count, that of q₀, and after the run every count is above it
  module _ (ss : List (List ℕ)) (log : List ℕ) where
    abbrev schedule : List ℕ
    schedule = flatten ss

    abbrev ran : Ran
    ran = run_of s schedule (length schedule) log

    -- the run's counted turns are its schedule
    all_counted : run_reason s schedule (length schedule) (length log) ≡ 0 → ran.ending ≡ Done → counted_all s (run schedule (length schedule) log ∷ []) ≡ schedule
    unfolding counted_all
    all_counted e done =
        counted_run_lem s schedule (length schedule) log [] ∙ rw done (append-nil (take (ran.turns + 0) schedule) ∙ take_all (ran.turns + 0) schedule (go (run_makes s schedule (length schedule) log e)))
      where
        go : Makes ran schedule (length schedule) → length schedule ≤ ran.turns + 0
        go (all turns end) = omega (arith, turns)
        go (stopped k why end fewer refused) = let z : ◌≡◌ {A = ℕ} 0 1 = cc in absurd (omega arith)

    pub run_raises : length ss ≡ promised_in s
        → ((k p : ℕ) → k < length ss → p < s.n → (i : ℕ) × (i < length (get_or ss k [])) × (get_or (get_or ss k []) i 0 ≡ p))
        → (c q₀ : ℕ) → q₀ < s.n → (task_at s q₀).count ≡ c → ((q : ℕ) → q < s.n → c ≤ (task_at s q).count) → c < 1000000
        → ran.ending ≡ Done → (q : ℕ) → q < s.n → c < (task_at ran.state q).count
    unfolding after_all
    run_raises many each c q₀ known is above low done q h = go (ℕ_discrete reason 0)
      where
        reason : ℕ
        reason = run_reason s schedule (length schedule) (length log)

        go : Dec (reason ≡ 0) → c < (task_at ran.state q).count
        go (no ne) =
            let ends = sym (ap (λ (x : Ran). x.ending) (run_refuses s schedule (length schedule) log ne)) ∙ done in
            let z : ◌≡◌ {A = ℕ} 0 1 = cc in absurd (omega arith)
        go (yes e) =
            let same : ran.state.n ≡ s.n = rw (run_accepts s schedule (length schedule) log e) (trace_n s (take (length schedule) schedule)) in
            let at = least_attained s (omega (arith, known)) in
            let least_is : least s ≡ c = omega (arith, least_le s q₀ known, is, at.2, above at.0 at.1) in
            let cut = subst (λ (k : ℕ). CutInto s.n k schedule) many (cut_pin s.n ss each) in
            let raised = (guarantee s reached (run schedule (length schedule) log ∷ [])).2 (rw least_is low) (rw (all_counted e done) cut) in
            omega (arith, least_is, raised, least_le ran.state q (rw same h))

-- ---- 02, P7: "kinds 1 and 4 show equal answers"

-- runs of two states that answer alike in everything, and leave the same log
abbrev RunsAlike : State → State → Type 0
RunsAlike a₁ a₄ = (schedule : List ℕ) (allowance : ℕ) (log : List ℕ)
    → (let r₁ = run_of a₁ schedule allowance log in let r₄ = run_of a₄ schedule allowance log in
    (r₁.ending ≡ r₄.ending) × (r₁.turns ≡ r₄.turns) × (r₁.rounds ≡ r₄.rounds) × (r₁.moves ≡ r₄.moves) × (r₁.waits ≡ r₄.waits)
    × (log_after a₁ schedule allowance log ≡ log_after a₄ schedule allowance log))

module _ (i₁ i₄ : Inputs) (e₁ : fresh_reason i₁ ≡ 0) (e₄ : fresh_reason i₄ ≡ 0) (k₁ : i₁.kind ≡ 1) (k₄ : i₄.kind ≡ 4) (n : i₁.n ≡ i₄.n) (works : i₁.works ≡ i₄.works) where
  abbrev s₁ : State
  s₁ = (fresh_of i₁).state

  abbrev s₄ : State
  s₄ = (fresh_of i₄).state

  down : (cs : List Call) → answers s₁ cs ≡ answers s₄ cs
  down cs = (counts_down_all i₁ i₄ e₁ e₄ k₁ k₄ n works cs).answered

  -- the first call
  pub down_turn : (p : ℕ) → (turn_of s₁ p).outcome ≡ (turn_of s₄ p).outcome
  unfolding answers
  down_turn p = let e = down (turn p ∷ []) in cc

  pub down_run : RunsAlike s₁ s₄
  unfolding answers
  down_run schedule allowance log = let e = down (run schedule allowance log ∷ []) in (cc, cc, cc, cc, cc, cc)

  -- and the one after it
  pub down_then_turn : (schedule : List ℕ) (allowance : ℕ) (log : List ℕ) (p : ℕ)
      → (turn_of (run_of s₁ schedule allowance log).state p).outcome ≡ (turn_of (run_of s₄ schedule allowance log).state p).outcome
  unfolding answers
  down_then_turn schedule allowance log p = let e = down (run schedule allowance log ∷ turn p ∷ []) in cc

  -- ready answers alike then, and as many passes are promised
  pub down_ready : (p : ℕ)
      → ((ready_of (turn_of s₁ p).state).ready ≡ (ready_of (turn_of s₄ p).state).ready) × (promised_in (turn_of s₁ p).state ≡ promised_in (turn_of s₄ p).state)
  unfolding after_all
  down_ready p = let d = counts_down_all i₁ i₄ e₁ e₄ k₁ k₄ n works (turn p ∷ []) in (d.ready, d.promise)

  pub down_then_run : (p : ℕ) → RunsAlike (turn_of s₁ p).state (turn_of s₄ p).state
  unfolding answers
  down_then_run p schedule allowance log = let e = down (turn p ∷ run schedule allowance log ∷ []) in (cc, cc, cc, cc, cc, cc)
