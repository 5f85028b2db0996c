-- A session as a program in C has it: lists of numbers that keep a state from call to call, the exported calls that change it, and what they answer.
use Rattle.std.specs.Prelude.{◌≡◌, ◌||◌, List, [], ◌∷◌, ◌++◌, ℕ, ◌+◌, ◌≤◌, eqb, length, take}
use Rattle.bitset.specs.Choice.{pick}
use Rattle.machine.specs.declared.State.{State}
use Rattle.machine.specs.Least.{least}
use Rattle.machine.specs.Turn.{turn_of, reason_number}
use Rattle.runner.specs.Run.{run_of}
use Rattle.rows.specs.Rows.{turn_room, task_room, listed_of, listed_log, turn_rows_after, task_rows_after}
use Rattle.snapshot.specs.Snapshot.{size, load_of}
use Rattle.numbers.specs.Numbers.{turn_number, turn_closed}
use Rattle.guarantee.specs.Calls as calls
use Rattle.guarantee.specs.Calls.{Call}
use Rattle.tungwaff.specs.Entry.{RunNumbers, numbers_of, kept_in, tasks_ran, rows_ran, kept_after, turn_list, turn_told, resume_told, rows_told}

-- a call of tungwaff_turn, tungwaff_resume or tungwaff_rows: a task; or a schedule, an allowance, a log and a list for the tasks' or turns' numbers
pub data Step : Type 0 where
  turn : ℕ → Step
  resume : List ℕ → ℕ → List ℕ → List ℕ → Step
  rows : List ℕ → ℕ → List ℕ → List ℕ → Step

-- ---- the list

-- the list after it, as the contract of the exported function has it
abbrev pub list_after : List ℕ → Step → List ℕ
list_after list (turn p) = turn_list list p
list_after list (resume schedule allowance log tasks) = kept_after (tasks_ran (kept_in list) schedule allowance log tasks) list
list_after list (rows schedule allowance log numbers) = kept_after (rows_ran (kept_in list) schedule allowance log numbers) list

-- and after several, each of which is lent the list that the one before it left
unfoldable pub list_after_all : List ℕ → List Step → List ℕ
list_after_all list [] = list
list_after_all list (c ∷ cs) = list_after_all (list_after list c) cs

-- A call, and what stands beyond the state's 1,029 numbers in the list that is lent to it: the caller may lend a longer or a shorter one each time, as long as it begins with the
-- numbers that the last call left.
pub record Visit : Type 0 where
  pub step : Step
  pub beyond : List ℕ

abbrev pub lent : List ℕ → Visit → List ℕ
lent list v = take size list ++ v.beyond

unfoldable pub list_after_visits : List ℕ → List Visit → List ℕ
list_after_visits list [] = list
list_after_visits list (v ∷ vs) = list_after_visits (list_after (lent list v) v.step) vs

-- ---- the state

-- the state after the same call of the library: a turn, or a run, which is not made where the list for its numbers is too short
abbrev pub state_after : State → Step → State
state_after s (turn p) = (turn_of s p).state
state_after s (resume schedule allowance log tasks) = pick (task_room s (length tasks)) (run_of s schedule allowance log).state s
state_after s (rows schedule allowance log numbers) = pick (turn_room schedule allowance (length numbers)) (run_of s schedule allowance log).state s

unfoldable pub state_after_all : State → List Step → State
state_after_all s [] = s
state_after_all s (c ∷ cs) = state_after_all (state_after s c) cs

unfoldable pub state_after_visits : State → List Visit → State
state_after_visits s [] = s
state_after_visits s (v ∷ vs) = state_after_visits (state_after s v.step) vs

-- a list keeps a state: it has room for one, and that one is loaded from it
pub record Keeps (list : List ℕ) (s : State) : Type 0 where
  pub room : size ≤ length list
  pub loaded : load_of list ≡ record { state = s; reason = 0 }

-- the least count of the state in a list
abbrev pub least_in : List ℕ → ℕ
least_in list = least (load_of list).state

-- ---- the answers

-- what a call answers besides the list: a turn its reason, whether it moved and whether it closed a round; a run its numbers, the log and the list of numbers after it
pub data Answer : Type 0 where
  turned : ℕ → ℕ → ℕ → Answer
  ran : RunNumbers → List ℕ → List ℕ → Answer

-- as the contract of the exported function has it
abbrev pub answer : List ℕ → Step → Answer
answer list (turn p) = let a = turn_told list p in turned a.reason a.moved a.closed
answer list (resume schedule allowance log tasks) = let a = resume_told list schedule allowance log tasks in ran a.numbers a.log a.tasks
answer list (rows schedule allowance log numbers) = let a = rows_told list schedule allowance log numbers in ran a.numbers a.log a.rows

unfoldable pub answers : List ℕ → List Visit → List Answer
answers list [] = []
answers list (v ∷ vs) = answer (lent list v) v.step ∷ answers (list_after (lent list v) v.step) vs

-- and as the library's own calls have it, in the state s
abbrev pub answer_in : State → Step → Answer
answer_in s (turn p) = let o = (turn_of s p).outcome in turned (reason_number o) (turn_number o) (turn_closed o)
answer_in s (resume schedule allowance log tasks) =
    let ok = task_room s (length tasks) in
    ran (numbers_of (listed_of s schedule allowance log ok)) (listed_log s schedule allowance log ok) (task_rows_after s schedule allowance log tasks)
answer_in s (rows schedule allowance log numbers) =
    let ok = turn_room schedule allowance (length numbers) in
    ran (numbers_of (listed_of s schedule allowance log ok)) (listed_log s schedule allowance log ok) (turn_rows_after s schedule allowance log numbers)

unfoldable pub answers_in : State → List Visit → List Answer
answers_in s [] = []
answers_in s (v ∷ vs) = answer_in s v.step ∷ answers_in (state_after s v.step) vs

-- ---- the counted turns

-- told by the answer's numbers alone: a turn counts where its reason is 0 or 11, and of a schedule the turns made, and one more where the reason is 11
abbrev pub counted_turns : RunNumbers → List ℕ → List ℕ
counted_turns numbers schedule = take (numbers.turns + pick (eqb numbers.reason 11) 1 0) schedule

abbrev pub counted_by : List ℕ → Step → List ℕ
counted_by list (turn p) = let reason = (turn_told list p).reason in pick (eqb reason 0 || eqb reason 11) (p ∷ []) []
counted_by list (resume schedule allowance log tasks) = counted_turns (resume_told list schedule allowance log tasks).numbers schedule
counted_by list (rows schedule allowance log numbers) = counted_turns (rows_told list schedule allowance log numbers).numbers schedule

unfoldable pub counted_by_all : List ℕ → List Visit → List ℕ
counted_by_all list [] = []
counted_by_all list (v ∷ vs) = counted_by (lent list v) v.step ++ counted_by_all (list_after (lent list v) v.step) vs

-- ---- the calls of demand 3

-- the turn or the run that a call makes; none where the list for its numbers is too short
abbrev pub call_of : State → Step → List Call
call_of s (turn p) = calls.turn p ∷ []
call_of s (resume schedule allowance log tasks) = pick (task_room s (length tasks)) (calls.run schedule allowance log ∷ []) []
call_of s (rows schedule allowance log numbers) = pick (turn_room schedule allowance (length numbers)) (calls.run schedule allowance log ∷ []) []

unfoldable pub calls_of : State → List Visit → List Call
calls_of s [] = []
calls_of s (v ∷ vs) = call_of s v.step ++ calls_of (state_after s v.step) vs
