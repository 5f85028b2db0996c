-- The words of 02's P3 on tallies: "For each task, moves plus waits equals the accepted turns that named it since the fresh state." Accepted are
-- the turns answered moved or waited, alone or in a run.
use Rattle.std.specs.Prelude.{List, [], ◌∷◌, ◌++◌, ℕ, take, Ok, Err}
use Rattle.machine.specs.declared.State.{State}
use Rattle.machine.specs.Answers.{Outcome}
use Rattle.machine.specs.Turn.{turn_of}
use Rattle.runner.specs.Run.{run_of}
use Rattle.guarantee.specs.Calls.{Call, turn, run, after}

-- a single turn
abbrev pub accepted_turn : ℕ → Outcome → List ℕ
accepted_turn p (Ok how) = p ∷ []
accepted_turn p (Err k) = []

-- of a run the first turns of its schedule, as many as it made: none where it is refused as a whole
abbrev pub accepted : State → Call → List ℕ
accepted s (turn p) = accepted_turn p (turn_of s p).outcome
accepted s (run schedule allowance log) = take (run_of s schedule allowance log).turns schedule

unfoldable pub accepted_all : State → List Call → List ℕ
accepted_all s [] = []
accepted_all s (c ∷ cs) = accepted s c ++ accepted_all (after s c) cs
