-- The words of 02's P5 over lists of calls, as demand 3 has them: the moves of a task at a line by what the calls answer, and the loop in a stretch of their
-- counted turns. Over single turns the claim stands in tree's `Loop`.
use Rattle.std.specs.Prelude.{◌≡◌, ◌&&◌, List, [], ◌∷◌, ◌++◌, ℕ, ◌+◌, eqb, length}
use Rattle.bitset.specs.Choice.{pick}
use Rattle.bitset.specs.Set.{size_of}
use Rattle.parents.specs.Parents.{children_of}
use Rattle.machine.specs.declared.State.{State}
use Rattle.machine.specs.Range.{table_of, Valid}
use Rattle.machine.specs.Turn.{move_number}
use Rattle.barrier.specs.Times.{move_at, times_at}
use Rattle.barrier.specs.Work.{after_turns}
use Rattle.tree.specs.Loop.{JustLeft, FirstBack, LoopMoves}
use Rattle.runner.specs.Trace.{Row}
use Rattle.runner.specs.Run.{run_reason, run_trace}
use Rattle.guarantee.specs.Calls.{Call, turn, run, after, counted_all}

-- of a run's rows, those in which p moves at the line
unfoldable pub rows_at : ℕ → ℕ → List Row → ℕ
rows_at p line [] = 0
rows_at p line (r ∷ rs) = pick (eqb (move_number r.how) 1 && (eqb r.task p && eqb r.line line)) 1 0 + rows_at p line rs

-- how many times p moves at the line in a call; a run that is refused as a whole has no turns
abbrev pub moved_in : ℕ → ℕ → State → Call → ℕ
moved_in p line s (turn q) = move_at p line s q
moved_in p line s (run schedule allowance log) = pick (eqb (run_reason s schedule allowance (length log)) 0) (rows_at p line (run_trace s schedule allowance).made) 0

unfoldable pub moved_in_all : ℕ → ℕ → State → List Call → ℕ
moved_in_all p line s [] = 0
moved_in_all p line s (c ∷ cs) = moved_in p line s c + moved_in_all p line (after s c) cs

-- the claim: "A stretch is an unbroken part of" the counted turns, "within one call or over several", and here it goes from p's leaving 11 until it is back there
abbrev pub CallsLoop : Type 0
CallsLoop = (s : State) → Valid s → s.kind ≡ 3 → (cs : List Call) (before stretch rest : List ℕ) → counted_all s cs ≡ before ++ (stretch ++ rest)
    → (p : ℕ) → JustLeft p (after_turns s before) → FirstBack p (after_turns s before) stretch
    → LoopMoves (size_of (children_of (table_of s) p)) (λ line. times_at p line (after_turns s before) stretch)

-- and where the stretch is all of them, by what the calls answer
abbrev pub WholeLoop : Type 0
WholeLoop = (s : State) → Valid s → s.kind ≡ 3 → (cs : List Call) (p : ℕ) → JustLeft p s → FirstBack p s (counted_all s cs)
    → LoopMoves (size_of (children_of (table_of s) p)) (λ line. moved_in_all p line s cs)
