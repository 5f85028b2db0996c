-- What is printed of a run, and of a state and its turns.
use Rattle.std.specs.Prelude.{List, ℕ, length, get_or}
use Rattle.schedule.specs.Passes.{passes_of}
use Rattle.machine.specs.declared.State.{State}
use Rattle.machine.specs.Setters.{task_at}
use Rattle.machine.specs.Least.{least}
use Rattle.runner.specs.declared.Ran.{Ran}
use Rattle.runner.specs.Trace.{trace_of}
use Rattle.sheet_text.specs.Print.{row_with, row_of, rows_by, table_with}

-- the row of task q by what a run answers
abbrev pub ran_row : Ran → ℕ → List ℕ
ran_row ran q = row_with q (task_at ran.state q).line (task_at ran.state q).count (get_or ran.moves q 0) (get_or ran.waits q 0)

-- what is printed of the turns ts from the state s, which is in range
unfoldable pub table_from : State → List ℕ → List ℕ
table_from s ts = table_with (rows_by (row_of (trace_of s ts)) s.n) (length (passes_of s.n ts)) (least (trace_of s ts).state)
