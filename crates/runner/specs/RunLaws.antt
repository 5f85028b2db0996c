-- Laws of what is read off a trace: the tallies, the log, and the turns made.
use Rattle.std.specs.Prelude.{◌≡◌, refl, Bool, ◌≢◌, ◌⊎◌, eqb, leb, ltb, take, get_or, replicate, Ok, Err}
use Rattle.std.proofs.Common.{sym, ap, ◌∙◌, inl, inr, length-take, get_or-take, eq-eqb, ne_eqb, le-leb, eqb-true}
use Rattle.std.proofs.Math.Bool.{true, false}
use mathlib.Core.List.{List, [], ◌∷◌, ◌++◌, map}
use Prim.Native.Nat.{ℕ, suc, ◌+◌, ◌*◌, ◌≤◌, ◌<◌, min}
use Rattle.std.proofs.Math.Decide.{ℕ_discrete}
use native.Mathlib.Omega.{arith}
use Rattle.std.proofs.Math.ListN.{length}
use Rattle.std.proofs.lemmas.List.{get_or-replicate}
use Rattle.std.proofs.lemmas.Bool.{eqb-false}
use Rattle.bitset.specs.Choice.{pick}
use Rattle.bitset.specs.ChoiceLaws.{by_test}
use Rattle.bitset.specs.TableLaws.{table_at}
use Rattle.schedule.specs.Passes.{max_turns, all_tasks}
use Rattle.schedule.specs.PassesLaws.{all_known}
use Rattle.schedule.specs.Times.{times}
use Rattle.schedule.specs.TimesLaws.{times_none, times_turn}
use Rattle.setup.specs.Reasons.{first_reason}
use Rattle.machine.specs.declared.State.{State}
use Rattle.machine.specs.declared.Move.{Move}
use Rattle.machine.specs.declared.Move.TheVariants.{Moved, Waited}
use Rattle.machine.specs.Answers.{Outcome}
use Rattle.machine.specs.Range.{check_state, Valid}
use Rattle.machine.specs.Least.{least}
use Rattle.machine.specs.Setters.{moves_at, waits_at}
use Rattle.machine.specs.Turn.{turn_of, move_number, wait_number, closed_number}
use Rattle.machine.proofs.TurnLaws.{move_le, wait_le, move_or_wait}
use Rattle.machine.proofs.KeepLaws.{turn_valid}
use Rattle.machine.specs.RangeLaws.{check_not}
use Rattle.machine.proofs.RefusalLaws.{turn_refusals}
use Rattle.machine.proofs.TallyLaws.{turn_tallies}
use Rattle.machine.proofs.RoundLaws.{turn_closed_lem, turn_round}
use Rattle.runner.specs.declared.Ending.TheVariants.{Stopped}
use Rattle.runner.specs.declared.Ran.{Ran}
use Rattle.runner.specs.Trace.{Row, Stop, nothing, refusal, Trace, turned, trace_of}
use Rattle.runner.specs.TraceLaws.{trace_none, trace_turn, made_few, turns_made, trace_keeps, trace_n, StoppedAt, stopped_at}
use Rattle.runner.specs.Run.{tally_in, moves_in, waits_in, rounds_in, log_of, unstopped, ending_reason, run_reason, run_place, run_trace, ran_of, refused_run, run_of, logged_of, log_after}

-- ---- tallies

module _ (weight : Move → ℕ) where
  -- no tally is more than the turns made
  tally_few : ((how : Move) → weight how ≤ 1) → (rs : List Row) (q : ℕ) → tally_in weight rs q ≤ length rs
  unfolding tally_in
  tally_few light [] q = omega arith
  tally_few light (r ∷ rs) q = go (eqb r.task q) (tally_few light rs q)
    where
      go : (b : Bool) → tally_in weight rs q ≤ length rs → pick b (weight r.how) 0 + tally_in weight rs q ≤ suc (length rs)
      go true h = omega (arith, light r.how)
      go false h = omega arith

-- every turn made that named the task is a move or a wait
pub tallies_named : (rs : List Row) (q : ℕ) → moves_in rs q + waits_in rs q ≡ times q (map (λ (r : Row). r.task) rs)
unfolding tally_in
tallies_named [] q = sym (times_none q)
tallies_named (r ∷ rs) q = omega (arith, tallies_named rs q, times_turn q r.task (map (λ (x : Row). x.task) rs), move_or_wait (eqb r.task q) r.how)

-- ---- the log

pub length_log : (rs : List Row) → length (log_of rs) ≡ 2 * length rs
unfolding log_of
length_log [] = refl
length_log (r ∷ rs) = omega (arith, length_log rs)

-- the log of no turns, and of one turn and others
pub log_none : log_of [] ≡ []
unfolding log_of
log_none = refl

pub log_row : (r : Row) (rs : List Row) → log_of (r ∷ rs) ≡ r.line ∷ move_number r.how ∷ log_of rs
unfolding log_of
log_row r rs = refl

pub log_more : (rs : List Row) (r : Row) → log_of (rs ++ r ∷ []) ≡ log_of rs ++ r.line ∷ move_number r.how ∷ []
unfolding log_of
log_more [] r = refl
log_more (x ∷ rs) r = ap (λ (l : List ℕ). x.line ∷ move_number x.how ∷ l) (log_more rs r)

-- ---- how many

-- no more moves and waits than turns
tally_turns : (weight : Move → ℕ) → ((how : Move) → weight how ≤ 1) → (s : State) (ts : List ℕ) (q : ℕ) → tally_in weight (trace_of s ts).made q ≤ length ts
tally_turns weight light s ts q = omega (arith, made_few s ts, tally_few weight light (trace_of s ts).made q)

pub moves_few : (s : State) (ts : List ℕ) (q : ℕ) → moves_in (trace_of s ts).made q ≤ length ts
moves_few = tally_turns move_number move_le

pub waits_few : (s : State) (ts : List ℕ) (q : ℕ) → waits_in (trace_of s ts).made q ≤ length ts
waits_few = tally_turns wait_number wait_le

-- ---- the turns made

-- a run is refused as a whole, or is what its trace gives
module _ (s : State) (schedule : List ℕ) (allowance : ℕ) (log : List ℕ) where
  -- the reason of this run
  abbrev reason : ℕ
  reason = run_reason s schedule allowance (length log)

  pub run_accepts : reason ≡ 0 → run_of s schedule allowance log ≡ ran_of (run_trace s schedule allowance) (unstopped allowance (length schedule))
  unfolding run_of
  run_accepts e = rw (eq-eqb reason 0 e)

  pub run_refuses : reason ≢ 0 → run_of s schedule allowance log ≡ refused_run s reason (run_place s schedule reason)
  unfolding run_of
  run_refuses ne = rw (ne_eqb reason 0 ne)

  -- and so is its log
  pub log_accepts : reason ≡ 0 → log_after s schedule allowance log ≡ logged_of (run_trace s schedule allowance) log
  unfolding log_after
  log_accepts e = rw (eq-eqb reason 0 e)

  pub log_refuses : reason ≢ 0 → log_after s schedule allowance log ≡ log
  unfolding log_after
  log_refuses ne = rw (ne_eqb reason 0 ne)

-- states in range with the same N refuse the same runs
pub run_alike : (s s' : State) (schedule : List ℕ) (allowance room : ℕ) → Valid s → Valid s' → s.n ≡ s'.n → run_reason s schedule allowance room ≡ run_reason s' schedule allowance room
unfolding run_reason
run_alike s s' schedule allowance room ok ok' n = rw (ok, ok', n)

-- ---- a run with an allowance of 0

-- its reason is that of the run, but for a short log
pub idle_reason : (s : State) (schedule : List ℕ) (allowance room : ℕ)
    → first_reason (run_reason s schedule allowance room) 10 ≡ first_reason (run_reason s schedule 0 room) 10
unfolding run_reason
idle_reason s schedule allowance room = go (eqb (check_state s) 0) (leb (length schedule) max_turns) (all_tasks s.n schedule)
  where
    ten : (b : Bool) → first_reason (pick b 0 10) 10 ≡ 10
    ten true = refl
    ten false = refl

    go : (a b c : Bool)
        → first_reason (pick a (pick b (pick c (pick (leb (2 * min allowance (length schedule)) room) 0 10) 9) 8) (check_state s)) 10
        ≡ first_reason (pick a (pick b (pick c (pick (leb (2 * min 0 (length schedule)) room) 0 10) 9) 8) (check_state s)) 10
    go true true true = ten (leb (2 * min allowance (length schedule)) room) ∙ sym (ten (leb (2 * min 0 (length schedule)) room))
    go true true false = refl
    go true false c = refl
    go false b c = refl

-- it writes nothing
pub idle_log : (s : State) (schedule log : List ℕ) → log_after s schedule 0 log ≡ log
unfolding log_after log_of
idle_log s schedule log = by_test (λ (l : List ℕ). l ≡ log) (eqb (run_reason s schedule 0 (length log)) 0) (λ _. rw (trace_none s)) (λ _. refl)

-- no reason applies
pub run_unrefused : (s : State) (schedule : List ℕ) (allowance room : ℕ) → Valid s → length schedule ≤ max_turns → all_tasks s.n schedule ≡ true
    → 2 * min allowance (length schedule) ≤ room → run_reason s schedule allowance room ≡ 0
unfolding run_reason
run_unrefused s schedule allowance room ok few known wide =
    rw (eq-eqb (check_state s) 0 ok, le-leb (length schedule) max_turns few, known, le-leb (2 * min allowance (length schedule)) room wide)

-- what the reasons 7 and 9 do not refuse
pub run_accepted : (s : State) (schedule : List ℕ) (allowance room : ℕ) → run_reason s schedule allowance room ≡ 0 → Valid s × (all_tasks s.n schedule ≡ true)
unfolding run_reason
run_accepted s schedule allowance room = go (eqb (check_state s) 0) (leb (length schedule) max_turns) (all_tasks s.n schedule) refl refl refl
  where
    go : (a b c : Bool) → eqb (check_state s) 0 ≡ a → leb (length schedule) max_turns ≡ b → all_tasks s.n schedule ≡ c
        → pick a (pick b (pick c (pick (leb (2 * min allowance (length schedule)) room) 0 10) 9) 8) (check_state s) ≡ 0
        → Valid s × (all_tasks s.n schedule ≡ true)
    go true b true ea eb ec e = (eqb-true (check_state s) 0 ea, ec)
    go true true false ea eb ec e = absurd (omega arith)
    go true false false ea eb ec e = absurd (omega arith)
    go false b c ea eb ec e = absurd (eqb-false (check_state s) 0 ea e)

-- 11 is a turn's reason alone
pub run_not_11 : (s : State) (schedule : List ℕ) (allowance room : ℕ) → run_reason s schedule allowance room ≢ 11
unfolding run_reason
run_not_11 s schedule allowance room =
    other (eqb (check_state s) 0)
    (other (leb (length schedule) max_turns)
    (other (all_tasks s.n schedule) (other (leb (2 * min allowance (length schedule)) room) (omega arith) (omega arith)) (omega arith))
    (omega arith))
    (check_not s 11 (omega arith) (omega arith))
  where
    other : (b : Bool) {x y : ℕ} → x ≢ 11 → y ≢ 11 → pick b x y ≢ 11
    other b h g = by_test (λ (k : ℕ). k ≢ 11) b (λ _. h) (λ _. g)

-- 01: "Turns made equals the count of defined turns: the smaller of allowance and length, or those before refusal 11". A run that is not refused
-- as a whole makes them all, or a turn stopped it, for reason 7, 11 or, from 02's P3 on, 13: then it made strictly fewer, and the turn at that place is the
-- one refused.
pub data Makes (r : Ran) (schedule : List ℕ) (allowance : ℕ) : Type 0 where
  all : r.turns ≡ min allowance (length schedule) → r.ending ≡ unstopped allowance (length schedule) → Makes r schedule allowance
  stopped : (k : ℕ) → (k ≡ 7) ⊎ ((k ≡ 11) ⊎ (k ≡ 13)) → r.ending ≡ Stopped k → r.turns < min allowance (length schedule)
      → (turn_of r.state (get_or schedule r.turns 0)).outcome ≡ Err k → Makes r schedule allowance

pub run_makes : (s : State) (schedule : List ℕ) (allowance : ℕ) (log : List ℕ) → run_reason s schedule allowance (length log) ≡ 0
    → Makes (run_of s schedule allowance log) schedule allowance
run_makes s schedule allowance log e = rw (run_accepts s schedule allowance log e) (go t.stop refl)
  where
    t : Trace
    t = run_trace s schedule allowance

    few : length (take allowance schedule) ≡ min allowance (length schedule)
    few = length-take allowance schedule

    accepted : Valid s × (all_tasks s.n schedule ≡ true)
    accepted = run_accepted s schedule allowance (length log) e

    go : (st : Stop) → t.stop ≡ st → Makes (ran_of t (unstopped allowance (length schedule))) schedule allowance
    go nothing st = all (turns_made s schedule allowance st) (rw st)
    go (refusal p k) st =
        let a = stopped_at s (take allowance schedule) p k st in
        let here : get_or schedule (length t.made) 0 ≡ p = sym (get_or-take allowance schedule (length t.made) 0 (omega (arith, a.fewer, few))) ∙ a.named in
        stopped k (why p k a here) (rw st) (omega (arith, a.fewer, few)) (rw here a.refused)
      where
        why : (p k : ℕ) → StoppedAt t (take allowance schedule) p k → get_or schedule (length t.made) 0 ≡ p → (k ≡ 7) ⊎ ((k ≡ 11) ⊎ (k ≡ 13))
        why p k a here =
            turn_refusals t.state p k (trace_keeps Valid turn_valid s (take allowance schedule) accepted.0)
            (rw (trace_n s (take allowance schedule), ← here)
            ((all_known s.n schedule).0 accepted.1 (length t.made) (omega (arith, a.fewer, few))))
            a.refused

-- the same by the paper's numbers of the ending
pub run_numbers : (s : State) (schedule : List ℕ) (allowance : ℕ) (log : List ℕ) → run_reason s schedule allowance (length log) ≡ 0
    → (let r = run_of s schedule allowance log in
    ((ending_reason r.ending ≡ 0) × (r.turns ≡ min allowance (length schedule)))
    ⊎ (((ending_reason r.ending ≡ 7) ⊎ ((ending_reason r.ending ≡ 11) ⊎ (ending_reason r.ending ≡ 13))) × (r.turns < min allowance (length schedule))))
run_numbers s schedule allowance log e = go (run_of s schedule allowance log) (run_makes s schedule allowance log e)
  where
    go : (r : Ran) → Makes r schedule allowance
        → ((ending_reason r.ending ≡ 0) × (r.turns ≡ min allowance (length schedule)))
        ⊎ (((ending_reason r.ending ≡ 7) ⊎ ((ending_reason r.ending ≡ 11) ⊎ (ending_reason r.ending ≡ 13))) × (r.turns < min allowance (length schedule)))
    go r (all t q) = inl (rw q (by_test (λ x. ending_reason x ≡ 0) (ltb allowance (length schedule)) (λ _. refl) (λ _. refl)), t)
    go r (stopped k w q f o) = inr (rw q w, f)

-- ---- the rounds closed

-- 02, P2: the rounds closed are "equal to the least count after minus the least count before"; a turn raises it by one at most
pub trace_rounds : (s : State) (ts : List ℕ) → least (trace_of s ts).state ≡ least s + rounds_in (trace_of s ts).made
unfolding rounds_in
trace_rounds s [] = rw (trace_none s) (omega arith)
trace_rounds s (p ∷ ts) = rw (trace_turn s p ts) (go (turn_of s p).outcome refl (trace_rounds (turn_of s p).state ts))
  where
    rest : Trace
    rest = trace_of (turn_of s p).state ts

    -- a turn that is made carries 1 or 0
    carries : (how : Move) → (turn_of s p).outcome ≡ Ok how → closed_number how ≡ pick (eqb (closed_number how) 1) 1 0
    carries (Moved c) e =
        rw (turn_closed_lem s p c e)
        (by_test (λ (x : ℕ). x ≡ pick (eqb x 1) 1 0) (ltb (least s) (least (turn_of s p).state)) {x = 1} {y = 0} (λ _. refl) (λ _. refl))
    carries Waited e = refl

    go : (o : Outcome) → (turn_of s p).outcome ≡ o → least rest.state ≡ least (turn_of s p).state + rounds_in rest.made
        → least (turned s p o rest).state ≡ least s + rounds_in (turned s p o rest).made
    go (Ok how) e ih = omega (arith, ih, turn_round s p how e, carries how e)
    go (Err k) e ih = omega arith

-- so for every run, refused or not: of one that is refused as a whole there are none
pub run_rounds : (s : State) (schedule : List ℕ) (allowance : ℕ) (log : List ℕ)
    → least (run_of s schedule allowance log).state ≡ least s + (run_of s schedule allowance log).rounds
run_rounds s schedule allowance log = go (ℕ_discrete (run_reason s schedule allowance (length log)) 0)
  where
    go : Dec (run_reason s schedule allowance (length log) ≡ 0) → least (run_of s schedule allowance log).state ≡ least s + (run_of s schedule allowance log).rounds
    go (yes e) = rw (run_accepts s schedule allowance log e) (trace_rounds s (take allowance schedule))
    go (no ne) = rw (run_refuses s schedule allowance log ne) (omega arith)

-- ---- the tallies of the state

-- 02, P3: the turns of a trace raise each task's tallies by the moves and waits made
pub trace_tallies : (s : State) (ts : List ℕ) (q : ℕ)
    → (moves_at (trace_of s ts).state q ≡ moves_at s q + moves_in (trace_of s ts).made q)
    × (waits_at (trace_of s ts).state q ≡ waits_at s q + waits_in (trace_of s ts).made q)
unfolding tally_in
trace_tallies s [] q = rw (trace_none s) (omega arith, omega arith)
trace_tallies s (p ∷ ts) q = rw (trace_turn s p ts) (go (turn_of s p).outcome refl (trace_tallies (turn_of s p).state ts q))
  where
    rest : Trace
    rest = trace_of (turn_of s p).state ts

    go : (o : Outcome) → (turn_of s p).outcome ≡ o
        → (moves_at rest.state q ≡ moves_at (turn_of s p).state q + moves_in rest.made q)
        × (waits_at rest.state q ≡ waits_at (turn_of s p).state q + waits_in rest.made q)
        → (moves_at (turned s p o rest).state q ≡ moves_at s q + moves_in (turned s p o rest).made q)
        × (waits_at (turned s p o rest).state q ≡ waits_at s q + waits_in (turned s p o rest).made q)
    go (Ok how) e ih =
        let one = rw e at (turn_tallies s p q) in
        (omega (arith, ih.0, one.0), omega (arith, ih.1, one.1))
    go (Err k) e ih = (omega arith, omega arith)

-- so a run's own moves and waits are how far the state's tallies have risen, for every run from every state; one that is refused as a whole raises
-- none
pub run_tallies : (s : State) (schedule : List ℕ) (allowance : ℕ) (log : List ℕ) (q : ℕ) → q < 64
    → (let r = run_of s schedule allowance log in
    (moves_at r.state q ≡ moves_at s q + get_or r.moves q 0) × (waits_at r.state q ≡ waits_at s q + get_or r.waits q 0))
run_tallies s schedule allowance log q h = go (ℕ_discrete (run_reason s schedule allowance (length log)) 0)
  where
    made : List Row
    made = (run_trace s schedule allowance).made

    Raised : Ran → Type 0
    Raised r = (moves_at r.state q ≡ moves_at s q + get_or r.moves q 0) × (waits_at r.state q ≡ waits_at s q + get_or r.waits q 0)

    go : Dec (run_reason s schedule allowance (length log) ≡ 0) → Raised (run_of s schedule allowance log)
    go (yes e) =
        let t = trace_tallies s (take allowance schedule) q in
        rw (run_accepts s schedule allowance log e)
        (omega (arith, t.0, table_at 64 (moves_in made) q 0 h), omega (arith, t.1, table_at 64 (waits_in made) q 0 h))
    go (no ne) =
        let none : get_or {A = ℕ} (replicate 64 0) q 0 ≡ 0 = get_or-replicate {A = ℕ} 64 q 0 0 h in
        rw (run_refuses s schedule allowance log ne) (omega (arith, none), omega (arith, none))
