-- The words of demand 3 (01, "What demand 3 means"), over the definitions that the contracts of fresh, turn and run cite.
use Rattle.std.specs.Prelude.{◌≡◌, List, [], ◌∷◌, ◌++◌, ℕ, ◌+◌, ◌≤◌, ◌<◌, eqb, length, Ok, Err}
use Rattle.bitset.specs.Choice.{pick}
use Rattle.machine.specs.declared.State.{State}
use Rattle.machine.specs.Answers.{Outcome}
use Rattle.machine.specs.Setters.{task_at}
use Rattle.machine.specs.Fresh.{Inputs, fresh_reason, fresh_of}
use Rattle.machine.specs.Turn.{turn_of}
use Rattle.bound.specs.Bound.{promised}
use Rattle.runner.specs.Trace.{counted_in}
use Rattle.runner.specs.Run.{run_reason, run_trace, run_of}

-- "The list in demand 3 holds turns and runs alone, .. each with any task, or any schedule, allowance and log as they stand at its call."
pub data Call : Type 0 where
  turn : ℕ → Call
  run : List ℕ → ℕ → List ℕ → Call

-- the state that a call returns
abbrev pub after : State → Call → State
after s (turn p) = (turn_of s p).state
after s (run schedule allowance log) = (run_of s schedule allowance log).state

-- "The first gets the reached state, each later one exactly what the last returned, and nobody changes it in between."
unfoldable pub after_all : State → List Call → State
after_all s [] = s
after_all s (c ∷ cs) = after_all (after s c) cs

-- "A list's counted turns are, in order, the task of each single turn answered moved, waited or 11,
abbrev pub counted_turn : ℕ → Outcome → List ℕ
counted_turn p (Ok m) = p ∷ []
counted_turn p (Err k) = pick (eqb k 11) (p ∷ []) []

-- and for each run not refused as a whole the tasks of its schedule from the first on: no more than its allowance, none after one that
-- the defined turn refuses, and that one only if it is refused 11."
abbrev pub counted_run : State → List ℕ → ℕ → List ℕ → List ℕ
counted_run s schedule allowance log =
    pick (eqb (run_reason s schedule allowance (length log)) 0) (counted_in (run_trace s schedule allowance)) []

-- "Nothing else counts." 02, P3: "In the progress rule a turn refused 13 isn't counted".
abbrev pub counted : State → Call → List ℕ
counted s (turn p) = counted_turn p (turn_of s p).outcome
counted s (run schedule allowance log) = counted_run s schedule allowance log

unfoldable pub counted_all : State → List Call → List ℕ
counted_all s [] = []
counted_all s (c ∷ cs) = counted s c ++ counted_all (after s c) cs

-- "A state is reached if an accepted fresh state gave it, or if a turn or a run, refused or not, got a reached state and returned it."
pub data Reached : State → Type 0 where
  fresh : (i : Inputs) → fresh_reason i ≡ 0 → Reached (fresh_of i).state
  called : (s : State) → Reached s → (c : Call) → Reached (after s c)

-- demand 3: "no two counts differ by more than one". "Only the counts of tasks 0 to N − 1 are compared"
abbrev pub Close : State → Type 0
Close s = (q r : ℕ) → q < s.n → r < s.n → (task_at s q).count ≤ (task_at s r).count + 1

-- demand 3: "a task at its own work is never ahead"; "own work is line 11"
abbrev pub Behind : State → Type 0
Behind s = (q r : ℕ) → q < s.n → r < s.n → (task_at s q).line ≡ 11 → (task_at s q).count ≤ (task_at s r).count

-- the work lengths of a state
abbrev pub works_of : State → ℕ → ℕ
works_of s q = (task_at s q).work

-- demand 3: "2 × M", of the state's own kind, N and work lengths
abbrev pub promised_in : State → ℕ
promised_in s = promised s.kind s.n (works_of s)
