-- The answers of a run, one law for each.
use mathlib.Core.Path.{◌≡◌, refl, sym, ap, ◌∙◌}
use mathlib.Core.Bool.{true}
use mathlib.Core.List.{List}
use mathlib.Core.Logic.{◌≢◌}
use Prim.Native.Nat.{ℕ, zero, suc, ◌*◌, ◌≤◌, ◌<◌, min}
use native.Mathlib.Decide.{dec_lt}
use native.Mathlib.Omega.{arith}
use lib.ListN.{length, take}
use lib.Seq.{take_all}
use borrow.Author.Tests.{eq-eqb, ne_eqb, le-leb, lt-leb}
use Rattle.std.specs.Prelude.{Ok, Err}
use Rattle.reason.specs.declared.PlacedRefusal.{PlacedRefusal}
use Rattle.reason.specs.Placed.{placed, checked_at_err, checked_at_some}
use Rattle.machine.specs.declared.State.{State}
use Rattle.machine.specs.Range.{check_state, Valid}
use Rattle.machine.specs.RangeLaws.{check_not}
use Rattle.schedule.specs.Passes.{max_turns, unknown_at, all_tasks}
use Rattle.schedule.specs.PassesLaws.{unknown_le}
use Rattle.runner.specs.declared.Ending.{Ending}
use Rattle.runner.specs.declared.Ran.{Ran}
use Rattle.runner.specs.Trace.{trace_of}
use Rattle.runner.specs.Run.{run_reason, run_place, admission, ran_of, refused_run, unstopped, run_of, logged_of, log_after}

module _ (s : State) (schedule : List ℕ) (allowance room : ℕ) where
  -- what is answered for a reason
  refuses : (k place : ℕ) → run_reason s schedule allowance room ≡ k → k ≢ 0 → run_place s schedule k ≡ place
      → admission s schedule allowance room ≡ Err (placed k place)
  refuses zero place e ne at = absurd (ne refl)
  refuses (suc k) place e ne at = rw (e, at)

  pub refuses_7 : (k : ℕ) → check_state s ≡ k → k ≢ 0 → admission s schedule allowance room ≡ Err (placed k 0)
  unfolding run_reason
  refuses_7 k e ne = refuses k 0 (rw (e, ne_eqb k 0 ne)) ne (rw (ne_eqb k 9 (rw (sym e) (check_not s 9 (omega arith) (omega arith)))))

  module _ (ok : Valid s) where
    pub refuses_8 : max_turns < length schedule → admission s schedule allowance room ≡ Err (placed 8 0)
    unfolding run_reason
    refuses_8 h = refuses 8 0 (rw (eq-eqb (check_state s) 0 ok, lt-leb (length schedule) max_turns h)) (omega arith) refl

    module _ (few : length schedule ≤ max_turns) where
      pub refuses_9 : (place : ℕ) → place ≡ unknown_at s.n schedule → place < length schedule
          → admission s schedule allowance room ≡ Err (placed 9 place)
      unfolding run_reason
      refuses_9 place e h =
          refuses 9 place
          (rw (eq-eqb (check_state s) 0 ok, le-leb (length schedule) max_turns few, ne_eqb (unknown_at s.n schedule) (length schedule) (omega arith)))
          (omega arith) (sym e)

      module _ (known : all_tasks s.n schedule ≡ true) where
        pub refuses_10 : room < 2 * min allowance (length schedule) → admission s schedule allowance room ≡ Err (placed 10 0)
        unfolding run_reason
        refuses_10 h =
            refuses 10 0
            (rw (eq-eqb (check_state s) 0 ok, le-leb (length schedule) max_turns few, known, lt-leb (2 * min allowance (length schedule)) room h))
            (omega arith) refl

        pub accepts : 2 * min allowance (length schedule) ≤ room → run_reason s schedule allowance room ≡ 0
        unfolding run_reason
        accepts h =
            rw (eq-eqb (check_state s) 0 ok, le-leb (length schedule) max_turns few, known, le-leb (2 * min allowance (length schedule)) room h)

-- a run that is not refused begins with a state in range
pub in_range : (s : State) (schedule : List ℕ) (allowance room : ℕ) → run_reason s schedule allowance room ≡ 0 → Valid s
in_range s schedule allowance room e = go (check_state s) refl
  where
    go : (k : ℕ) → check_state s ≡ k → Valid s
    go zero is = is
    go (suc k) is =
        let refused : admission s schedule allowance room ≡ Err (placed (suc k) 0)
        = refuses_7 s schedule allowance room (suc k) is (λ z. absurd (omega arith)) in
        let on : admission s schedule allowance room ≡ Ok tt = rw e in cc

-- a number above 0 is not 0
pub positive_some : {k : ℕ} → 0 < k → k ≢ 0
positive_some h = λ z. absurd (omega arith)

-- every turn is a task where the first that is none stands at the end
pub all_tasks_lem : (n place : ℕ) (schedule : List ℕ) → place ≡ unknown_at n schedule → length schedule ≤ place → all_tasks n schedule ≡ true
all_tasks_lem n place schedule e h = eq-eqb (unknown_at n schedule) (length schedule) (omega (arith, unknown_le n schedule))

-- what an accepted run has been found to be
pub record Admitted (s : State) (schedule : List ℕ) (allowance room : ℕ) : Type 0 where
  pub few : length schedule ≤ max_turns
  pub known : all_tasks s.n schedule ≡ true
  pub roomy : 2 * min allowance (length schedule) ≤ room

pub admitted : (s : State) (schedule : List ℕ) (allowance room : ℕ) → Valid s → run_reason s schedule allowance room ≡ 0 → Admitted s schedule allowance room
admitted s schedule allowance room ok e = record { few = few; known = known; roomy = roomy }
  where
    -- it is refused for no reason
    none : {r : PlacedRefusal} → admission s schedule allowance room ≡ Err r → ⊥
    none {r = r} is = let on : admission s schedule allowance room ≡ Ok tt = rw e in cc

    few : length schedule ≤ max_turns
    few = go (dec_lt max_turns (length schedule))
      where
        go : Dec (max_turns < length schedule) → length schedule ≤ max_turns
        go (yes h) = absurd (none (refuses_8 s schedule allowance room ok h))
        go (no ne) = omega arith

    known : all_tasks s.n schedule ≡ true
    known = go (dec_lt (unknown_at s.n schedule) (length schedule))
      where
        go : Dec (unknown_at s.n schedule < length schedule) → all_tasks s.n schedule ≡ true
        go (yes h) = absurd (none (refuses_9 s schedule allowance room ok few (unknown_at s.n schedule) refl h))
        go (no ne) = all_tasks_lem s.n (unknown_at s.n schedule) schedule refl (omega arith)

    roomy : 2 * min allowance (length schedule) ≤ room
    roomy = go (dec_lt room (2 * min allowance (length schedule)))
      where
        go : Dec (room < 2 * min allowance (length schedule)) → 2 * min allowance (length schedule) ≤ room
        go (yes h) = absurd (none (refuses_10 s schedule allowance room ok few known h))
        go (no ne) = omega arith

module _ (s : State) (schedule : List ℕ) (allowance : ℕ) (log : List ℕ) where
  -- a run that is refused as a whole
  pub refused_answer : (r : PlacedRefusal) → admission s schedule allowance (length log) ≡ Err r → (a : Ran) → a ≡ refused_run s r.refusal r.place
      → (a ≡ run_of s schedule allowance log) × (log ≡ log_after s schedule allowance log)
  unfolding run_of log_after
  refused_answer r is a q =
      let some = ne_eqb _ 0 (checked_at_some _ _ is) in
      (rw some (q ∙ ap (λ (p : PlacedRefusal). refused_run s p.refusal p.place) (sym (checked_at_err _ _ is))), rw some)

  -- the first turns are those of the allowance
  turns_made : (count : ℕ) → count ≡ min allowance (length schedule) → take allowance schedule ≡ take count schedule
  turns_made count fewer = go (dec_lt allowance (length schedule))
    where
      go : Dec (allowance < length schedule) → take allowance schedule ≡ take count schedule
      go (yes l) = let e : count ≡ allowance = omega arith in rw e
      go (no l) = take_all allowance schedule (omega arith) ∙ sym (take_all count schedule (omega arith))

  -- and one that is not
  pub accepted_answer : run_reason s schedule allowance (length log) ≡ 0 → (count : ℕ) → count ≡ min allowance (length schedule)
      → (end : Ending) → end ≡ unstopped allowance (length schedule) → (r : Ran) (after : List ℕ)
      → r ≡ ran_of (trace_of s (take count schedule)) end
      → after ≡ logged_of (trace_of s (take count schedule)) log
      → (r ≡ run_of s schedule allowance log) × (after ≡ log_after s schedule allowance log)
  unfolding run_of log_after
  accepted_answer none count fewer end ee r after e q =
      (e ∙ rw (eq-eqb _ 0 none, turns_made count fewer, ee), q ∙ rw (eq-eqb _ 0 none, turns_made count fewer))
