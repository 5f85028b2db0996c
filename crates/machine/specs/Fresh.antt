-- The fresh state, and the reason that refuses one (01, "The state and a turn"; 02, P1, P3, P6, P7). Each reason by itself is the crate `setup`.
use Rattle.std.specs.Prelude.{List, ◌++◌, ℕ, ◌-◌, eqb, length, replicate}
use Rattle.bitset.specs.Choice.{pick}
use Rattle.bitset.specs.Table.{table}
use Rattle.lines.specs.declared.Task.{Task}
use Rattle.lines.specs.Setters.{zero_task, with_line, with_start, with_work, with_left, with_own}
use Rattle.reason.specs.Checked.{checked}
use Rattle.setup.specs.Kinds.{has_sense}
use Rattle.setup.specs.Tables.{starts_reason, works_reason, start_of, work_of}
use Rattle.setup.specs.Reasons.{first_reason, setup_reason}
use Rattle.machine.specs.declared.State.{State}
use Rattle.machine.specs.declared.Setup.{Setup}
use Rattle.machine.specs.declared.Tables.{Tables}
use Rattle.machine.specs.declared.Fresh as code

-- what a fresh state is made from: kind, N, R, and the tables of parents, of starts and of work lengths
pub record Inputs : Type 0 where
  pub kind : ℕ
  pub n : ℕ
  pub modulus : ℕ
  pub parents : List ℕ
  pub starts : List ℕ
  pub works : List ℕ

abbrev pub inputs_of : Setup → List ℕ → List ℕ → List ℕ → Inputs
inputs_of setup parents starts works =
    record { kind = setup.kind; n = setup.n; modulus = setup.modulus; parents = parents; starts = starts; works = works }

-- the same by what a call is given
abbrev pub given : Setup → Tables → Inputs
given setup tables = inputs_of setup tables.parents.now tables.starts.now tables.works.now

-- "A fresh state checks 2 to 6"; 12 "follows 6", and 15 "follows 12": the first reason that applies, 0 if none does
unfoldable pub fresh_reason : Inputs → ℕ
fresh_reason i =
    first_reason (setup_reason i.kind i.n i.modulus i.parents)
    (first_reason (starts_reason i.kind i.n i.starts) (works_reason i.n i.works))

-- "Each task has a line and a count, fresh 11 and 0"; "fields not named above start at 0". With a start and a work length, all of whose moves
-- are left, and an own sense:
abbrev pub task_with : ℕ → ℕ → ℕ → Task
task_with start work own = with_own (with_left (with_work (with_start (with_line zero_task 11) start) work) work) own

-- 02, P7: "the task's sense, fresh 1", for kind 4; 0 for another kind, which doesn't use it
abbrev pub fresh_own : ℕ → ℕ
fresh_own kind = pick (eqb kind 4) 1 0

-- the task q
abbrev pub fresh_task : Inputs → ℕ → Task
fresh_task i q = task_with (start_of i.starts q) (work_of i.works q) (fresh_own i.kind)

-- "Sense (fresh 1)" for kind 1; 02, P7: and for kind 4, "fresh 1"; 0 for another kind, which doesn't use it
abbrev pub fresh_sense : ℕ → ℕ
fresh_sense kind = pick (has_sense kind) 1 0

-- 02, P7: "arrivals start at N and fall" for kind 4; they start at 0 for kind 1, and another kind doesn't use them
abbrev pub fresh_arrivals : ℕ → ℕ → ℕ
fresh_arrivals kind n = pick (eqb kind 4) n 0

-- n of 64 tasks, the task q as f gives it; the tasks from n on are all zero
abbrev pub fresh_tasks : ℕ → (ℕ → Task) → List Task
fresh_tasks n f = table n f ++ replicate (64 - n) zero_task

-- the table in the first bytes of 64, and 0 after it
abbrev pub padded : List ℕ → List ℕ
padded parents = parents ++ replicate (64 - length parents) 0

-- 02, P3: both tallies are "fresh 0"
abbrev pub fresh_state : Inputs → State
fresh_state i =
    record {
      kind = i.kind;
      n = i.n;
      modulus = i.modulus;
      arrivals = fresh_arrivals i.kind i.n;
      sense = fresh_sense i.kind;
      parents = padded i.parents;
      moves = replicate 64 0;
      waits = replicate 64 0;
      tasks = fresh_tasks i.n (fresh_task i);
    }

-- "A refused fresh state: all fields 0"
abbrev pub zero_state : State
zero_state =
    record {
      kind = 0;
      n = 0;
      modulus = 0;
      arrivals = 0;
      sense = 0;
      parents = replicate 64 0;
      moves = replicate 64 0;
      waits = replicate 64 0;
      tasks = replicate 64 zero_task;
    }

-- what a fresh state's call answers: the state, and the reason that refused it, 0 if none did
pub record Fresh : Type 0 where
  pub state : State
  pub reason : ℕ

unfoldable pub fresh_of : Inputs → Fresh
fresh_of i =
    record {
      state = pick (eqb (fresh_reason i) 0) (fresh_state i) zero_state;
      reason = fresh_reason i;
    }

-- the same as the code says it
abbrev pub told : Fresh → code.Fresh
told f = record { state = f.state; made = checked f.reason }
