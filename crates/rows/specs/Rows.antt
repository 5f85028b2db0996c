-- The numbers of a run, in rows: six of each turn that it made, and four of each task at its end.
use Rattle.std.specs.Prelude.{Bool, true, false, List, [], ◌∷◌, ◌++◌, ℕ, zero, suc, ◌*◌, min, eqb, leb, length, get_or, take, drop, Ok, Err}
use Rattle.bitset.specs.Choice.{pick}
use Rattle.setup.specs.Reasons.{first_reason}
use Rattle.machine.specs.declared.State.{State}
use Rattle.machine.specs.Answers.{Outcome}
use Rattle.machine.specs.Setters.{task_at}
use Rattle.machine.specs.Least.{count_of, least}
use Rattle.machine.specs.Turn.{turn_of, move_number, closed_number}
use Rattle.runner.specs.declared.Ending.{Ending}
use Rattle.runner.specs.declared.Ending.TheVariants.{Done, Spent, Stopped, Refused}
use Rattle.runner.specs.declared.Ran.{Ran}
use Rattle.runner.specs.Run.{run_reason, run_place, refused_run, run_of, log_after}

-- ---- refusals

-- a list of `room` numbers has six for each turn that the run may make, or four for each of its tasks
abbrev pub turn_room : List ℕ → ℕ → ℕ → Bool
turn_room schedule allowance room = leb (6 * min allowance (length schedule)) room

abbrev pub task_room : State → ℕ → Bool
task_room s room = leb (4 * s.n) room

-- whether the whole run was refused
abbrev pub is_refused : Ending → Bool
is_refused Done = false
is_refused Spent = false
is_refused (Stopped k) = false
is_refused (Refused r) = true

-- "Refusals as a run's, 10 for a short list"
unfoldable pub listed_reason : State → List ℕ → ℕ → List ℕ → Bool → ℕ
listed_reason s schedule allowance log ok = first_reason (run_reason s schedule allowance (length log)) (pick ok 0 10)

-- the answer is the run's; where the list is short it is that of a refused run
unfoldable pub listed_of : State → List ℕ → ℕ → List ℕ → Bool → Ran
listed_of s schedule allowance log ok =
    let reason = listed_reason s schedule allowance log ok in
    pick ok (run_of s schedule allowance log) (refused_run s reason (run_place s schedule reason))

-- the log is the run's too; a refused call "writes to no buffer"
unfoldable pub listed_log : State → List ℕ → ℕ → List ℕ → Bool → List ℕ
listed_log s schedule allowance log ok = pick ok (log_after s schedule allowance log) log

-- "numbers after the last row, and all of them in a refused call, don't change"
unfoldable pub listed_rows : ℕ → List ℕ → List ℕ → List ℕ
listed_rows reason new rows = pick (eqb reason 0) (new ++ drop (length new) rows) rows

-- ---- a turn's row

-- "for every turn its task, line before, outcome (1 or 0), the task's count after it, the least count after it, and whether it closed a round";
-- then the rows of the turns after it. A refused turn ends them.
abbrev pub turn_row : State → ℕ → State → Outcome → List ℕ → List ℕ
turn_row s p after (Ok how) rest = p ∷ (task_at s p).line ∷ move_number how ∷ count_of after p ∷ least after ∷ closed_number how ∷ rest
turn_row s p after (Err k) rest = []

-- the rows of the defined turns ts from the state s
unfoldable pub row_numbers : State → List ℕ → List ℕ
row_numbers s [] = []
row_numbers s (p ∷ ts) = let r = turn_of s p in turn_row s p r.state r.outcome (row_numbers r.state ts)

-- the list after a call
abbrev pub turn_rows_after : State → List ℕ → ℕ → List ℕ → List ℕ → List ℕ
turn_rows_after s schedule allowance log rows =
    listed_rows (listed_reason s schedule allowance log (turn_room schedule allowance (length rows))) (row_numbers s (take allowance schedule)) rows

-- ---- a task's row

-- "its line and its count at the end, its moves and its waits in this run", of task q
abbrev pub task_row : Ran → ℕ → List ℕ
task_row r q = (task_at r.state q).line ∷ count_of r.state q ∷ get_or r.moves q 0 ∷ get_or r.waits q 0 ∷ []

-- the rows of the tasks below n, in order
unfoldable pub task_numbers : Ran → ℕ → List ℕ
task_numbers r zero = []
task_numbers r (suc q) = task_numbers r q ++ task_row r q

abbrev pub task_rows_after : State → List ℕ → ℕ → List ℕ → List ℕ → List ℕ
task_rows_after s schedule allowance log rows =
    listed_rows (listed_reason s schedule allowance log (task_room s (length rows))) (task_numbers (run_of s schedule allowance log) s.n) rows
