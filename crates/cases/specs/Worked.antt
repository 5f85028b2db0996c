-- Cases of 02's P6, worked out by hand from the papers, one claim over the definitions that the contracts cite, shown by computation.
use Rattle.std.specs.Prelude.{◌≡◌, refl, List, [], ◌∷◌, map, ℕ, zero, suc, replicate}
use Rattle.lines.specs.declared.Task.{Task}
use Rattle.lines.specs.Setters.{with_line, with_work, with_left}
use Rattle.lines.specs.Common.{work}
use Rattle.machine.specs.declared.State.{State}
use Rattle.machine.specs.Setters.{task_at, with_task}
use Rattle.machine.specs.Fresh.{inputs_of, task_with, fresh_of}
use Rattle.runner.specs.Trace.{trace_of}
use Rattle.runner.specs.Run.{log_of, run_reason, log_after}
use Rattle.barrier.specs.Times.{times_at}
use Rattle.cases.specs.Cases.{computing, setup, after, lines, outcomes, moved, waited}
use Rattle.cases.specs.Tallied.{refused}

-- a state with a work table, and the reason of a call with start and work table
abbrev pub fresh : ℕ → ℕ → List ℕ → State
fresh kind n works = (fresh_of (inputs_of (setup kind n 0) [] [] works)).state

abbrev pub reason : ℕ → ℕ → ℕ → List ℕ → List ℕ → List ℕ → ℕ
reason kind n modulus parents starts works = (fresh_of (inputs_of (setup kind n modulus) parents starts works)).reason

-- a task's line, work length and moves left
abbrev pub at : State → ℕ → List ℕ
at s q = (task_at s q).line ∷ (task_at s q).work ∷ (task_at s q).left ∷ []

-- a task after so many moves of its own work
abbrev pub working : ℕ → Task → Task
working zero t = t
working (suc k) t = (work (working k t)).task

-- two tasks of the ring, whose work takes three moves and one
abbrev pub two : State
two = fresh 2 2 (3 ∷ 1 ∷ [])

-- the state with task q's work length, or moves left, changed
abbrev pub work_to : State → ℕ → ℕ → State
work_to s q x = with_task s q (with_work (task_at s q) x)

abbrev pub left_to : State → ℕ → ℕ → State
left_to s q x = with_task s q (with_left (task_at s q) x)

pub record Worked : Type 0 where
  -- fresh, and with no table: all are 1, and from N on 0
  pub begin : (at two 0 ≡ 11 ∷ 3 ∷ 3 ∷ []) × (at two 1 ≡ 11 ∷ 1 ∷ 1 ∷ []) × (at two 2 ≡ 0 ∷ 0 ∷ 0 ∷ []) × (at (fresh 2 2 []) 1 ≡ 11 ∷ 1 ∷ 1 ∷ [])
  -- task 0 makes three moves at 11, task 1 one; the moves left are set back by the third, at 12 already, and stay so
  pub turns : (outcomes two (0 ∷ 1 ∷ 1 ∷ 0 ∷ 0 ∷ []) ≡ moved 0 ∷ moved 0 ∷ waited ∷ moved 0 ∷ moved 0 ∷ [])
      × (lines two (0 ∷ 1 ∷ 1 ∷ 0 ∷ 0 ∷ []) ≡ 11 ∷ 12 ∷ 12 ∷ 11 ∷ 12 ∷ [])
      × (at (after two (0 ∷ 0 ∷ [])) 0 ≡ 11 ∷ 3 ∷ 1 ∷ []) × (at (after two (replicate 3 0)) 0 ≡ 12 ∷ 3 ∷ 3 ∷ []) × (at (after two (replicate 5 0)) 0 ≡ 14 ∷ 3 ∷ 3 ∷ [])
  pub times : times_at 0 11 two (0 ∷ 1 ∷ 0 ∷ 1 ∷ 0 ∷ 0 ∷ []) ≡ 3
  -- each of them is logged 11 and 1
  pub log : log_after two (replicate 4 0) 4 (replicate 8 9) ≡ 11 ∷ 1 ∷ 11 ∷ 1 ∷ 11 ∷ 1 ∷ 12 ∷ 1 ∷ []
  -- the longest work: 255 moves
  pub longest : (working 254 (task_with 0 255 0) ≡ with_left (task_with 0 255 0) 1) × (working 255 (task_with 0 255 0) ≡ with_line (task_with 0 255 0) 12)
  -- 15 on both sides, for every kind, and after 12
  pub lengths : map (reason 2 2 0 [] []) ([] ∷ (1 ∷ []) ∷ (1 ∷ 255 ∷ []) ∷ (1 ∷ 1 ∷ 1 ∷ []) ∷ (0 ∷ 1 ∷ []) ∷ (1 ∷ 0 ∷ []) ∷ []) ≡ 0 ∷ 15 ∷ 0 ∷ 15 ∷ 15 ∷ 15 ∷ []
  pub kinds : (reason 0 1 3 [] [] (0 ∷ []) ≡ 15) × (reason 1 1 0 [] [] (0 ∷ []) ≡ 15) × (reason 3 1 0 (0 ∷ []) [] (0 ∷ []) ≡ 15)
      × (reason 0 1 3 [] [] (9 ∷ []) ≡ 0) × (reason 1 1 0 [] [] (9 ∷ []) ≡ 0) × (reason 3 1 0 (0 ∷ []) [] (9 ∷ []) ≡ 0)
  pub order : (reason 0 2 3 [] (0 ∷ 2 ∷ []) (0 ∷ 1 ∷ []) ≡ 12) × (reason 0 2 3 [] (0 ∷ 1 ∷ []) (0 ∷ 1 ∷ []) ≡ 15) × (reason 3 1 0 (1 ∷ []) [] (0 ∷ []) ≡ 6)
  -- moves left of 0 or above the length are out of range, and so is anything from N on; fewer at another line are not
  pub range : (outcomes (left_to two 0 0) (1 ∷ []) ≡ refused 7 ∷ []) × (outcomes (left_to two 0 4) (1 ∷ []) ≡ refused 7 ∷ []) × (outcomes (work_to two 0 2) (1 ∷ []) ≡ refused 7 ∷ [])
      × (outcomes (left_to two 2 1) (1 ∷ []) ≡ refused 7 ∷ []) × (outcomes (work_to two 63 1) (1 ∷ []) ≡ refused 7 ∷ [])
      × (outcomes (left_to (after two (replicate 3 0)) 0 1) (0 ∷ []) ≡ moved 0 ∷ [])

pub worked : Worked
unfolding computing log_after run_reason trace_of log_of
worked =
    record {
      begin = (refl, refl, refl, refl);
      turns = (refl, refl, refl, refl, refl);
      times = refl;
      log = refl;
      longest = (refl, refl);
      lengths = refl;
      kinds = (refl, refl, refl, refl, refl, refl);
      order = (refl, refl, refl);
      range = (refl, refl, refl, refl, refl, refl);
    }
