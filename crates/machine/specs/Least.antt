-- The least count (01), and when a turn closes a round (02, P2).
use Rattle.std.specs.Prelude.{List, ℕ, ◌-◌, ltb}
use Rattle.bitset.specs.Choice.{pick}
use Rattle.bitset.specs.Table.{table}
use Rattle.counts.specs.Counts.{lowest}
use Rattle.machine.specs.declared.State.{State}
use Rattle.machine.specs.Setters.{task_at}

-- the tasks' counts, by the task's number
abbrev pub count_of : State → ℕ → ℕ
count_of s q = (task_at s q).count

-- all of them
abbrev pub counts_of : State → List ℕ
counts_of s = table 64 (count_of s)

-- the lowest count of the tasks 0 to m
abbrev pub least_up_to : State → ℕ → ℕ
least_up_to s m = lowest (count_of s) m

-- "the least count is the lowest of them", of the counts of tasks 0 to N − 1
unfoldable pub least : State → ℕ
least s = least_up_to s (s.n - 1)

-- 02, P2: "1 if the least count rose in that turn, else 0", by the state before the turn and the state after it
abbrev pub closed_by : State → State → ℕ
closed_by s s' = pick (ltb (least s) (least s')) 1 0
