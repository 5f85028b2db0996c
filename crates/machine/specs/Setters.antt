-- A state's fields, one setter each, and the task and its tallies at a place. Nothing outside this file and `Fresh` writes a whole state, so that a field added
-- later is added here.
use Rattle.std.specs.Prelude.{List, ℕ, get_or, set}
use Rattle.lines.specs.declared.Task.{Task}
use Rattle.lines.specs.Setters.{zero_task}
use Rattle.machine.specs.declared.State.{State}

abbrev pub with_arrivals : State → ℕ → State
with_arrivals s x = record { kind = s.kind; n = s.n; modulus = s.modulus; arrivals = x; sense = s.sense; parents = s.parents; moves = s.moves; waits = s.waits; tasks = s.tasks }

abbrev pub with_sense : State → ℕ → State
with_sense s x = record { kind = s.kind; n = s.n; modulus = s.modulus; arrivals = s.arrivals; sense = x; parents = s.parents; moves = s.moves; waits = s.waits; tasks = s.tasks }

abbrev pub with_moves : State → List ℕ → State
with_moves s x = record { kind = s.kind; n = s.n; modulus = s.modulus; arrivals = s.arrivals; sense = s.sense; parents = s.parents; moves = x; waits = s.waits; tasks = s.tasks }

abbrev pub with_waits : State → List ℕ → State
with_waits s x = record { kind = s.kind; n = s.n; modulus = s.modulus; arrivals = s.arrivals; sense = s.sense; parents = s.parents; moves = s.moves; waits = x; tasks = s.tasks }

abbrev pub with_tasks : State → List Task → State
with_tasks s x = record { kind = s.kind; n = s.n; modulus = s.modulus; arrivals = s.arrivals; sense = s.sense; parents = s.parents; moves = s.moves; waits = s.waits; tasks = x }

-- the task p; past the tasks there is the all-zero one
abbrev pub task_at : State → ℕ → Task
task_at s p = get_or s.tasks p zero_task

-- the tallies of the task p, of moves and of waits; past the tallies there is 0
abbrev pub moves_at : State → ℕ → ℕ
moves_at s p = get_or s.moves p 0

abbrev pub waits_at : State → ℕ → ℕ
waits_at s p = get_or s.waits p 0

-- the state with the task t at p; past the tasks nothing changes
abbrev pub with_task : State → ℕ → Task → State
with_task s p t = with_tasks s (set s.tasks p t)
