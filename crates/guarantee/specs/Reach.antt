-- The words of 02's P6 on a task that comes to its own work.
use Rattle.std.specs.Prelude.{◌≡◌, ◌≢◌, ℕ, ◌<◌}
use Rattle.machine.specs.declared.State.{State}
use Rattle.machine.specs.Setters.{task_at}
use Rattle.machine.specs.Fresh.{Inputs, fresh_reason, fresh_of}
use Rattle.machine.specs.Turn.{turn_of}
use Rattle.guarantee.specs.Calls.{Reached}

-- the task p has just come to 11: in the fresh state, or by a turn of any task from a reached one
pub data Comes (p : ℕ) : State → Type 0 where
  first : (i : Inputs) → fresh_reason i ≡ 0 → p < i.n → Comes p (fresh_of i).state
  back : (s : State) → Reached s → p < s.n → (task_at s p).line ≢ 11 → (q : ℕ) → (task_at (turn_of s q).state p).line ≡ 11 → Comes p (turn_of s q).state
