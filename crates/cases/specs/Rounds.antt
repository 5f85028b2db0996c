-- Cases of 02's P2, worked out by hand from the papers, one claim over the definitions that the contracts cite, shown by computation.
use Rattle.std.specs.Prelude.{◌≡◌, refl, List, [], ◌∷◌, ℕ, length, replicate}
use Rattle.reason.specs.Placed.{placed}
use Rattle.lines.specs.Setters.{with_line, with_count}
use Rattle.machine.specs.declared.State.{State}
use Rattle.machine.specs.Setters.{task_at, with_task}
use Rattle.runner.specs.declared.Ending.TheVariants.{Done, Stopped, Refused}
use Rattle.runner.specs.declared.Ran.{Ran}
use Rattle.runner.specs.Trace.{trace_of}
use Rattle.runner.specs.Run.{tally_in, rounds_in, run_reason, run_of}
use Rattle.cases.specs.Cases.{computing, fresh, outcomes, moved, waited}

-- the whole schedule, run with a log that has room for it
abbrev pub ran : State → List ℕ → Ran
ran s schedule = run_of s schedule (length schedule) (replicate 64 0)

-- the state with the task q at a line, and with a count
abbrev pub edited : State → ℕ → ℕ → ℕ → State
edited s q line count = with_task s q (with_count (with_line (task_at s q) line) count)

-- three tasks of the symmetric barrier at 12, where their counts rise
abbrev pub counts : ℕ → ℕ → ℕ → State
counts a b c = edited (edited (edited (fresh 0 3 3 []) 0 12 a) 1 12 b) 2 12 c

-- "The sheet's input above" (01)
abbrev pub sheet_turns : List ℕ
sheet_turns = 0 ∷ 0 ∷ 0 ∷ 0 ∷ 1 ∷ 1 ∷ 1 ∷ 1 ∷ 1 ∷ 0 ∷ []

-- a count one below its limit, at 13 of fetch-and-increment
abbrev pub near_limit : State
near_limit = edited (fresh 1 1 0 []) 0 13 999999

pub record Closed : Type 0 where
  -- N 1, every kind: the turn that raises the count closes a round, and no other
  pub symmetric : outcomes (fresh 0 1 3 []) (replicate 5 0) ≡ moved 0 ∷ moved 1 ∷ moved 0 ∷ moved 0 ∷ moved 0 ∷ []
  pub increment : outcomes (fresh 1 1 0 []) (replicate 5 0) ≡ moved 0 ∷ moved 0 ∷ moved 1 ∷ moved 0 ∷ moved 0 ∷ []
  pub ring : outcomes (fresh 2 1 0 []) (replicate 5 0) ≡ moved 0 ∷ moved 0 ∷ moved 1 ∷ moved 0 ∷ moved 0 ∷ []
  pub tree : outcomes (fresh 3 1 0 (0 ∷ [])) (replicate 7 0) ≡ moved 0 ∷ moved 0 ∷ moved 0 ∷ moved 1 ∷ moved 0 ∷ moved 0 ∷ moved 0 ∷ []
  -- the sheet's example: task 0 raises its count in the third turn, task 1 in the seventh, which closes the round
  pub sheet : outcomes (fresh 1 2 0 []) sheet_turns ≡ moved 0 ∷ moved 0 ∷ moved 0 ∷ waited ∷ moved 0 ∷ moved 0 ∷ moved 1 ∷ moved 0 ∷ moved 0 ∷ moved 0 ∷ []
  pub sheet_run : ((ran (fresh 1 2 0 []) sheet_turns).rounds ≡ 1) × ((ran (fresh 1 2 0 []) sheet_turns).ending ≡ Done)
  -- counts that differ by more than one: only the task that stands at the least count alone closes a round
  pub spread : (outcomes (counts 5 7 9) (0 ∷ []) ≡ moved 1 ∷ []) × (outcomes (counts 5 7 9) (1 ∷ 2 ∷ 0 ∷ []) ≡ moved 0 ∷ moved 0 ∷ moved 1 ∷ [])
      × (outcomes (counts 5 5 9) (0 ∷ 1 ∷ []) ≡ moved 0 ∷ moved 1 ∷ []) × ((ran (counts 5 5 9) (0 ∷ 1 ∷ 2 ∷ [])).rounds ≡ 1)
  -- a run that 11 stops keeps the round before it; one that is refused as a whole has none
  pub stopped : ((ran near_limit (replicate 6 0)).ending ≡ Stopped 11) × ((ran near_limit (replicate 6 0)).turns ≡ 5) × ((ran near_limit (replicate 6 0)).rounds ≡ 1)
  pub refused : ((ran near_limit (0 ∷ 1 ∷ [])).ending ≡ Refused (placed 9 1)) × ((ran near_limit (0 ∷ 1 ∷ [])).rounds ≡ 0)

pub closed : Closed
unfolding computing run_of run_reason trace_of tally_in rounds_in
closed =
    record {
      symmetric = refl;
      increment = refl;
      ring = refl;
      tree = refl;
      sheet = refl;
      sheet_run = (refl, refl);
      spread = (refl, refl, refl, refl);
      stopped = (refl, refl, refl);
      refused = (refl, refl);
    }
