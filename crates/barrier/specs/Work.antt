-- The claim of 02's P6, in its words: "A task stays at 11 until it has made that many moves there. The state keeps the work length and the moves left, which .. are
-- set back to it on leaving 11." Over the turn that the contracts cite, for every kind; the law stands in `WorkLaws`.
use Rattle.std.specs.Prelude.{◌≡◌, List, [], ◌∷◌, ◌≢◌, ℕ, ◌<◌}
use Rattle.machine.specs.declared.State.{State}
use Rattle.machine.specs.Setters.{task_at}
use Rattle.machine.specs.Range.{Valid}
use Rattle.machine.specs.Turn.{turn_of}
use Rattle.barrier.specs.Times.{times_at}

-- "stays at 11 until": p is at 11 before each of the turns, and no longer after them. The turns are of any tasks, and a refused one leaves the state.
abbrev pub Stays : ℕ → State → List ℕ → Type 0
Stays p s [] = (task_at s p).line ≢ 11
Stays p s (q ∷ ts) = ((task_at s p).line ≡ 11) × Stays p (turn_of s q).state ts

-- the state after the turns
abbrev pub after_turns : State → List ℕ → State
after_turns s [] = s
after_turns s (q ∷ ts) = after_turns (turn_of s q).state ts

pub record Works (p : ℕ) (s : State) (ts : List ℕ) : Type 0 where
  -- "that many moves there": as many as are left, which are all of them where the task has just come to 11 (`all_left`)
  pub moves : times_at p 11 s ts ≡ (task_at s p).left
  -- the last of them leads to 12
  pub to : (task_at (after_turns s ts) p).line ≡ 12
  -- "set back to it on leaving 11"
  pub back : (task_at (after_turns s ts) p).left ≡ (task_at s p).work

-- the claim, for every state in range
abbrev pub WorkClaim : Type 0
WorkClaim = (s : State) → Valid s → (p : ℕ) → p < s.n → (task_at s p).line ≡ 11 → (ts : List ℕ) → Stays p s ts → Works p s ts
