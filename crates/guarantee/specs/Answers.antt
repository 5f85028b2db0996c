-- The words of 02's P7 on kinds 1 and 4: "From fresh states of equal N and work table, under every schedule, kinds 1 and 4 show equal answers,
-- lines and counts, the arrivals of one are N minus the other's, and the aim equals the own sense on lines 13 to 16."
use Rattle.std.specs.Prelude.{◌≡◌, List, [], ◌∷◌, ℕ, ◌+◌, ◌≤◌, ◌<◌}
use Rattle.machine.specs.declared.State.{State}
use Rattle.machine.specs.Answers.{Outcome}
use Rattle.machine.specs.Setters.{task_at}
use Rattle.machine.specs.Turn.{turn_of}
use Rattle.machine.specs.Ready.{ready_of}
use Rattle.runner.specs.declared.Ending.{Ending}
use Rattle.runner.specs.Run.{run_of, log_after}
use Rattle.playback.specs.declared.Played.{Played}
use Rattle.guarantee.specs.Calls.{Call, turn, run, after, after_all, promised_in}

-- what a call answers besides the state: a turn moved with its flag, waited, or a refusal; a run its ending, turns, rounds, moves and waits, and
-- what it leaves in the log
pub data Answer : Type 0 where
  turned : Outcome → Answer
  ran : Ending → ℕ → ℕ → List ℕ → List ℕ → List ℕ → Answer

abbrev pub answer : State → Call → Answer
answer s (turn p) = turned (turn_of s p).outcome
answer s (run schedule allowance log) =
    let r = run_of s schedule allowance log in
    ran r.ending r.turns r.rounds r.moves r.waits (log_after s schedule allowance log)

-- of every call, each with the state that the one before it returned
unfoldable pub answers : State → List Call → List Answer
answers s [] = []
answers s (c ∷ cs) = answer s c ∷ answers (after s c) cs

-- what a state of kind 1 and one of kind 4 show
pub record Alike (s₁ s₄ : State) : Type 0 where
  -- "equal .. lines and counts", of tasks 0 to N − 1, and equal tallies
  pub lines : (q : ℕ) → q < s₄.n → (task_at s₁ q).line ≡ (task_at s₄ q).line
  pub counts : (q : ℕ) → q < s₄.n → (task_at s₁ q).count ≡ (task_at s₄ q).count
  pub moves : s₁.moves ≡ s₄.moves
  pub waits : s₁.waits ≡ s₄.waits
  -- "the arrivals of one are N minus the other's"
  pub n : s₁.n ≡ s₄.n
  pub arrivals : s₁.arrivals + s₄.arrivals ≡ s₄.n
  pub senses : s₁.sense ≡ s₄.sense
  -- "the aim equals the own sense on lines 13 to 16"
  pub aims : (q : ℕ) → q < s₄.n → 13 ≤ (task_at s₄ q).line → (task_at s₄ q).line ≤ 16 → (task_at s₁ q).aim ≡ (task_at s₄ q).own

-- all that is claimed of two fresh states, of kinds 1 and 4, and the same calls of both
pub record Down (s₁ s₄ : State) (cs : List Call) : Type 0 where
  -- "equal answers"
  pub answered : answers s₁ cs ≡ answers s₄ cs
  -- "lines and counts, the arrivals .., and the aim"
  pub alike : Alike (after_all s₁ cs) (after_all s₄ cs)
  -- ready, which no list of calls has in it, answers alike after them
  pub ready : (ready_of (after_all s₁ cs)).ready ≡ (ready_of (after_all s₄ cs)).ready
  -- "M is as for kind 1": as many passes are promised
  pub promise : promised_in (after_all s₁ cs) ≡ promised_in (after_all s₄ cs)

-- and of play-backs of the same trace: the same verdict, and states that show the same
pub record PlaysDown (r₁ r₄ : Played) : Type 0 where
  pub verdict : r₁.verdict ≡ r₄.verdict
  pub alike : Alike r₁.state r₄.state
