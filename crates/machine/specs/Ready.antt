-- Ready (01, "What else is asked of the library").
use Rattle.std.specs.Prelude.{ℕ, zero, suc, ◌+◌, eqb, Ok, Err, Some, None}
use Rattle.bitset.specs.Choice.{pick}
use Rattle.machine.specs.declared.State.{State}
use Rattle.machine.specs.Answers.{Ready}
use Rattle.machine.specs.declared.Readied.{Readied}
use Rattle.machine.specs.Range.{check_state}
use Rattle.machine.specs.Turn.{turn_of, is_moved}

-- "the least task whose turn would answer moved, or none if there is no such task": of the k tasks from p on
unfoldable pub ready_from : State → ℕ → ℕ → Ready
ready_from s zero p = Ok None
ready_from s (suc k) p = let r = ready_from s k (p + 1) in pick (is_moved (turn_of s p).outcome) (Ok (Some p)) r

-- "ready 7"; the state is handed back as it was
unfoldable pub ready_of : State → Readied
ready_of s = record { state = s; ready = pick (eqb (check_state s) 0) (ready_from s s.n 0) (Err (check_state s)) }

-- the paper's numbers of an answer: the reason, 0 if accepted; the task, 64 for "none", which is no task, and 0 for a refusal
abbrev pub ready_reason : Ready → ℕ
ready_reason (Ok (Some p)) = 0
ready_reason (Ok None) = 0
ready_reason (Err k) = k

abbrev pub ready_number : Ready → ℕ
ready_number (Ok (Some p)) = p
ready_number (Ok None) = 64
ready_number (Err k) = 0
