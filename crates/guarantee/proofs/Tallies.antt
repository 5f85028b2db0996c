-- 02, P3: each task's tallies, over every list of turns and runs. The words stand in Accepted.antt.
use Rattle.std.specs.Prelude.{◌≡◌, List, [], ◌∷◌, map, ℕ, ◌+◌, eqb, length, take, Ok, Err}
use Rattle.std.proofs.Common.{ap, ◌∙◌, arith, length-take, take-take}
use Rattle.std.proofs.Math.Decide.{ℕ_discrete}
use Rattle.bitset.specs.Choice.{pick}
use Rattle.bitset.specs.ChoiceLaws.{by_test}
use Rattle.machine.specs.declared.State.{State}
use Rattle.machine.specs.Answers.{Outcome}
use Rattle.machine.specs.Setters.{moves_at, waits_at}
use Rattle.machine.specs.Fresh.{Inputs, fresh_reason, fresh_of}
use Rattle.machine.specs.FreshLaws.{fresh_accepted, fresh_tally}
use Rattle.machine.specs.Turn.{turn_of, move_number, wait_number}
use Rattle.machine.proofs.TurnLaws.{move_or_wait}
use Rattle.machine.proofs.TallyLaws.{weighed, turn_tallies}
use Rattle.schedule.specs.Times.{times}
use Rattle.schedule.specs.TimesLaws.{times_none, times_turn, times_append}
use Rattle.runner.specs.Trace.{Trace, trace_of}
use Rattle.runner.specs.TraceLaws.{made_few, made_tasks}
use Rattle.runner.specs.Run.{run_reason, run_of}
use Rattle.runner.specs.RunLaws.{run_accepts, run_refuses, trace_tallies, tallies_named}
use Rattle.guarantee.specs.Calls.{Call, turn, run, after, after_all}
use Rattle.guarantee.specs.Accepted.{accepted_turn, accepted, accepted_all}

-- a task's moves and waits together
abbrev pub turns_of : State → ℕ → ℕ
turns_of s q = moves_at s q + waits_at s q

-- a single turn adds one to its task's where it is accepted
turn_named : (s : State) (p q : ℕ) → turns_of (turn_of s p).state q ≡ turns_of s q + times q (accepted_turn p (turn_of s p).outcome)
turn_named s p q = omega (arith, (turn_tallies s p q).0, (turn_tallies s p q).1, go (turn_of s p).outcome)
  where
    go : (o : Outcome) → pick (eqb p q) (weighed move_number o) 0 + pick (eqb p q) (weighed wait_number o) 0 ≡ times q (accepted_turn p o)
    go (Ok how) = move_or_wait (eqb p q) how ∙ omega (arith, times_turn q p [], times_none q)
    go (Err k) = by_test (λ k. k + k ≡ times q []) (eqb p q) (λ _. omega (arith, times_none q)) (λ _. omega (arith, times_none q))

-- a run adds those that it made
run_named : (s : State) (schedule : List ℕ) (allowance : ℕ) (log : List ℕ) (q : ℕ)
    → turns_of (run_of s schedule allowance log).state q ≡ turns_of s q + times q (take (run_of s schedule allowance log).turns schedule)
run_named s schedule allowance log q = go (ℕ_discrete (run_reason s schedule allowance (length log)) 0)
  where
    t : Trace
    t = trace_of s (take allowance schedule)

    -- the turns made are the first of the schedule
    named : map (λ r. r.task) t.made ≡ take (length t.made) schedule
    named =
        made_tasks s (take allowance schedule)
        ∙ take-take (length t.made) allowance schedule (omega (arith, made_few s (take allowance schedule), length-take allowance schedule))

    go : Dec (run_reason s schedule allowance (length log) ≡ 0)
        → turns_of (run_of s schedule allowance log).state q ≡ turns_of s q + times q (take (run_of s schedule allowance log).turns schedule)
    go (yes e) =
        rw (run_accepts s schedule allowance log e, ← named)
        (omega (arith, (trace_tallies s (take allowance schedule) q).0, (trace_tallies s (take allowance schedule) q).1, tallies_named t.made q))
    go (no ne) = rw (run_refuses s schedule allowance log ne) (omega (arith, times_none q))

call_named : (s : State) (c : Call) (q : ℕ) → turns_of (after s c) q ≡ turns_of s q + times q (accepted s c)
call_named s (turn p) q = turn_named s p q
call_named s (run schedule allowance log) q = run_named s schedule allowance log q

-- every list of calls, from every state
pub calls_named : (s : State) (cs : List Call) (q : ℕ) → turns_of (after_all s cs) q ≡ turns_of s q + times q (accepted_all s cs)
unfolding after_all accepted_all
calls_named s [] q = omega (arith, times_none q)
calls_named s (c ∷ cs) q =
    omega (arith, call_named s c q, calls_named (after s c) cs q, times_append q (accepted s c) (accepted_all (after s c) cs))

-- "For each task, moves plus waits equals the accepted turns that named it since the fresh state."
pub tallies : (i : Inputs) → fresh_reason i ≡ 0 → (cs : List Call) (q : ℕ)
    → moves_at (after_all (fresh_of i).state cs) q + waits_at (after_all (fresh_of i).state cs) q ≡ times q (accepted_all (fresh_of i).state cs)
tallies i e cs q = calls_named (fresh_of i).state cs q ∙ omega (arith, none)
  where
    none : turns_of (fresh_of i).state q ≡ 0
    none = ap (λ (s : State). turns_of s q) (fresh_accepted i e) ∙ omega (arith, (fresh_tally i q).0, (fresh_tally i q).1)
