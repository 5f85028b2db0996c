-- Every reached state has its barrier's invariant, or is coupled with one of kind 1 that has it, and so is in range; and what else is said of reached
-- states.
use Rattle.std.specs.Prelude.{◌≡◌, refl, List, [], ◌∷◌, ◌≢◌, ℕ, zero, suc, ◌≤◌, ◌<◌}
use Rattle.std.proofs.Common.{sym, ◌∙◌, subst, inl, inr, arith}
use Rattle.std.proofs.Math.Decide.{dec_le}
use Rattle.lines.specs.CountingLaws.{AllArrived}
use Rattle.machine.specs.declared.State.{State}
use Rattle.machine.specs.Answers.{Outcome}
use Rattle.machine.specs.Setters.{task_at}
use Rattle.machine.specs.Fresh.{Inputs, fresh_reason, fresh_state}
use Rattle.machine.specs.FreshLaws.{accepted_inputs, fresh_accepted, fresh_line, fresh_valid}
use Rattle.machine.specs.FreshLaws as laws
use Rattle.machine.specs.Range.{shared_of, Valid}
use Rattle.machine.specs.Turn.{turn_of, reason_number}
use Rattle.machine.proofs.TurnLaws.{turn_constants, turn_work}
use Rattle.machine.proofs.KeepLaws.{turn_valid}
use Rattle.machine.proofs.RefusalLaws.{seven_arrived}
use Rattle.barrier.specs.View.{view_of}
use Rattle.barrier.specs.Barrier.{AllLeft, Holds}
use Rattle.barrier.specs.Moves.{fresh_left, keeps_all}
use Rattle.barrier.specs.Times.{times_at}
use Rattle.barrier.specs.Work.{Stays, after_turns}
use Rattle.barrier.proofs.WorkLaws.{all_left, works}
use Rattle.increment.proofs.Safe.{never_7}
use Rattle.centralized.specs.Coupling.{Pair}
use Rattle.centralized.proofs.Fresh.{with_kind, same_inputs, fresh_pair}
use Rattle.centralized.proofs.Turns.{same_line, same_work, same_left, turns}
use Rattle.playback.specs.Playback.{triples_of, play_reason, play_of}
use Rattle.playback.specs.PlaybackLaws.{play_accepted, play_keeps}
use Rattle.playback.specs.Claims.{fresh_first}
use Rattle.guarantee.specs.Reach.{Comes, first, back}
use Rattle.guarantee.specs.Calls.{Call, turn, after, after_all, counted, counted_all, Reached, fresh, called}
use Rattle.guarantee.proofs.Turns.{Leads, leads_call, leads_all}
use Rattle.guarantee.proofs.CountsDown.{call_same}
use Rattle.guarantee.proofs.Instance.{barrier_of}

-- a kind whose barrier's invariant the state has
pub record Known (s : State) : Type 0 where
  pub kind : ℕ
  pub low : kind ≤ 3
  pub inv : Holds kind (barrier_of kind low).Inv s

known_turns : (s : State) (ts : List ℕ) → Known s → Known (after_turns s ts)
known_turns s [] k = k
known_turns s (p ∷ ts) k =
    known_turns (turn_of s p).state ts (record { kind = k.kind; low = k.low; inv = keeps_all (barrier_of k.kind k.low) s p k.inv })

-- turns that lead from one state to another take the invariant there
known_led : (s s' : State) (ts : List ℕ) → Leads s ts s' → Known s → Known s'
known_led s s' ts l k = subst Known l.to (known_turns s ts k)

known_fresh : (i : Inputs) → fresh_reason i ≡ 0 → i.kind ≤ 3 → Known (fresh_state i)
known_fresh i e low =
    record { kind = i.kind; low = low; inv = record { valid = fresh_valid i e; kind = refl; inv = (barrier_of i.kind low).fresh i e refl; left = fresh_left i } }

pub known_after : (s : State) (cs : List Call) → Known s → Known (after_all s cs)
known_after s cs k = known_led s (after_all s cs) (counted_all s cs) (leads_all s cs) k

-- the state of kind 1 in a coupled pair
pub known_first : {s₁ s₄ : State} → Pair s₁ s₄ → Known s₁
unfolding barrier_of
known_first pair = record { kind = 1; low = omega arith; inv = pair.first }

-- 02, P7: what holds of kind 1 is carried over to kind 4, which has no invariant of its own
pub data Stands (s : State) : Type 0 where
  own : Known s → Stands s
  carried : (s₁ : State) → Pair s₁ s → Stands s

stands_fresh : (i : Inputs) → fresh_reason i ≡ 0 → Stands (fresh_state i)
stands_fresh i e = go (dec_le i.kind 3)
  where
    go : Dec (i.kind ≤ 3) → Stands (fresh_state i)
    go (yes low) = own (known_fresh i e low)
    go (no high) =
        let four : i.kind ≡ 4 = omega (arith, (accepted_inputs i e).kind) in
        carried (fresh_state (with_kind i 1)) (fresh_pair (with_kind i 1) i (same_inputs i four ∙ e) e refl four refl refl)

pub stands : (s : State) → Reached s → Stands s
stands s (fresh i e) = subst Stands (sym (fresh_accepted i e)) (stands_fresh i e)
stands s (called t r c) = go (stands t r)
  where
    go : Stands t → Stands (after t c)
    go (own k) = own (known_led t (after t c) (counted t c) (leads_call t c) k)
    go (carried t₁ pair) = carried (after t₁ c) (call_same pair c).pair

-- what every fresh state has and every turn keeps, a reached state has
module _ (P : State → Type 0) (first : (i : Inputs) → fresh_reason i ≡ 0 → P (fresh_state i)) (next : (s : State) (p : ℕ) → P s → P (turn_of s p).state) where
  turns_keep : (s : State) (ts : List ℕ) → P s → P (after_turns s ts)
  turns_keep s [] h = h
  turns_keep s (p ∷ ts) h = turns_keep (turn_of s p).state ts (next s p h)

  pub reached_by : (s : State) → Reached s → P s
  reached_by s (fresh i e) = subst P (sym (fresh_accepted i e)) (first i e)
  reached_by s (called t r c) = subst P (leads_call t c).to (turns_keep t (counted t c) (reached_by t r))

-- ---- what follows for a reached state

-- it is in range
pub reached_valid : (s : State) → Reached s → Valid s
reached_valid s r = go (stands s r)
  where
    go : Stands s → Valid s
    go (own k) = k.inv.valid
    go (carried s₁ pair) = pair.valid

-- 02, P6: off line 11 a task has all moves of its work left, and so it has on coming there
pub reached_left : (s : State) → Reached s → (q : ℕ) → q < s.n → (task_at s q).line ≢ 11 → (task_at s q).left ≡ (task_at s q).work
reached_left s r = go (stands s r)
  where
    go : Stands s → AllLeft (view_of s)
    go (own k) = k.inv.left
    go (carried s₁ pair) = λ q h off.
        let c = pair.coupled in
        sym (same_left c q h) ∙ pair.first.left q (subst (λ (n : ℕ). q < n) (sym c.n) h) (λ l. off (sym (same_line c q h) ∙ l)) ∙ same_work c q h

-- 02, P6: "A task stays at 11 until it has made that many moves there", as many as its work length: p comes to 11, and stays there for the turns ts
pub comes_works : (p : ℕ) (s : State) → Comes p s → (ts : List ℕ) → Stays p s ts → times_at p 11 s ts ≡ (task_at s p).work
comes_works p _ (first i e below) ts =
    subst (λ (s : State). Stays p s ts → times_at p 11 s ts ≡ (task_at s p).work) (sym (fresh_accepted i e))
    (λ stays. (works (fresh_state i) (fresh_valid i e) p below (fresh_line i p below) ts stays).moves ∙ laws.fresh_left i p below)
comes_works p _ (back s r below away q at) ts = λ stays.
    let ok = reached_valid s r in
    let there = subst (λ (n : ℕ). p < n) (sym (turn_constants s q).n) below in
    (works (turn_of s q).state (turn_valid s q ok) p there at ts stays).moves ∙ all_left s p q ok (reached_left s r) below away ∙ sym (turn_work s q p)

-- 02, P4: so is the state that a play-back gives, unless it is refused; what is said of reached states holds of it
pub played_reached : (i : Inputs) (trace : List ℕ) → play_reason i trace ≡ 0 → Reached (play_of i trace).state
played_reached i trace e =
    let z = fresh_first i trace e in
    rw (play_accepted i trace e)
    (play_keeps Reached (λ s p r. called s r (turn p)) (fresh_state i) 0 (triples_of trace) (subst Reached (fresh_accepted i z) (fresh i z)))

-- 01, reason 7: "at a turn, the task is at 13 of kind 1 with arrivals already N, which no fresh state leads to"
known_7 : (s : State) (p : ℕ) → Known s → reason_number (turn_of s p).outcome ≢ 7
unfolding barrier_of
known_7 s p k e = go k.kind k.low k.inv
  where
    other : s.kind ≢ 1 → s.kind ≢ 4 → AllArrived (shared_of s) → ⊥
    other n1 n4 (inl all) = n1 all.0
    other n1 n4 (inr all) = n4 all.0

    go : (kind : ℕ) (h : kind ≤ 3) → Holds kind (barrier_of kind h).Inv s → ⊥
    go zero h i = other (omega (arith, i.kind)) (omega (arith, i.kind)) (seven_arrived s p i.valid e)
    go (suc zero) h i = never_7 s i p e
    go (suc (suc kind)) h i = other (omega (arith, i.kind)) (omega (arith, i.kind)) (seven_arrived s p i.valid e)

-- 02, P7: nor to "a turn at 13 of kind 4 with arrivals 0"
pub reached_7 : (s : State) (p : ℕ) → Reached s → reason_number (turn_of s p).outcome ≢ 7
reached_7 s p r = go (stands s r)
  where
    go : Stands s → reason_number (turn_of s p).outcome ≢ 7
    go (own k) = known_7 s p k
    go (carried s₁ pair) = subst (λ (o : Outcome). reason_number o ≢ 7) (turns pair p).0 (known_7 s₁ p (known_first pair))
