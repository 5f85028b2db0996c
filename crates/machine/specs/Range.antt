-- The range of a state (01, "Field ranges"), which reason 7 refuses to leave. That of a task and of what all tasks share is the crate `setup`.
use Rattle.std.specs.Prelude.{◌≡◌, Bool, true, ◌&&◌, List, ℕ, zero, suc, eqb, leb, ltb, length, take, drop}
use Rattle.bitset.specs.Choice.{pick}
use Rattle.parents.specs.Parents.{check_of}
use Rattle.lines.specs.declared.Shared.{Shared}
use Rattle.setup.specs.Tables.{all_zero}
use Rattle.setup.specs.Range.{place_ok, shared_ok}
use Rattle.machine.specs.declared.State.{State}
use Rattle.machine.specs.Setters.{task_at, moves_at, waits_at}
use Rattle.machine.specs.Tally.{max_tally}

-- what a line may read besides tasks and parents
abbrev pub shared_of : State → Shared
shared_of s = record { kind = s.kind; n = s.n; modulus = s.modulus; arrivals = s.arrivals; sense = s.sense }

-- "A table of N bytes gives each task's parent": the first N entries
abbrev pub table_of : State → List ℕ
table_of s = take s.n s.parents

-- 02, P3: the tallies are "at most 4,000,000,000 each"; those of a task from N on are 0. A tally of task q:
abbrev pub tally_ok : ℕ → ℕ → ℕ → Bool
tally_ok n q tally = pick (ltb q n) (leb tally max_tally) (eqb tally 0)

-- all that the state keeps of task q: the task, and its tallies
abbrev pub each_ok : State → ℕ → Bool
each_ok s q = place_ok (shared_of s) (table_of s) q (task_at s q) && (tally_ok s.n q (moves_at s q) && tally_ok s.n q (waits_at s q))

-- of the tasks below m
unfoldable pub tasks_ok : State → ℕ → Bool
tasks_ok s zero = true
tasks_ok s (suc q) = tasks_ok s q && each_ok s q

-- ".. and parents as above": for a tree the first N entries are a table that its check accepts, and all others are 0
abbrev pub parents_ok : State → Bool
parents_ok s =
    pick (eqb s.kind 3)
    (eqb (check_of (table_of s) s.n) 0 && all_zero (drop s.n s.parents))
    (all_zero s.parents)

-- each task has its tallies; the code's types ensure it
abbrev pub tallies64 : State → Bool
tallies64 s = eqb (length s.moves) 64 && eqb (length s.waits) 64

-- every field: what all tasks share, the parents, and what is kept of each task
unfoldable pub state_ok : State → Bool
state_ok s = shared_ok (shared_of s) && parents_ok s && tasks_ok s 64 && tallies64 s

-- the reason that refuses a state: 7, "a field of the state is out of range", or 0
unfoldable pub check_state : State → ℕ
check_state s = pick (state_ok s) 0 7

-- a state that no call refuses
abbrev pub Valid : State → Type 0
Valid s = check_state s ≡ 0
