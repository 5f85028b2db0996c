-- The claim of 02's P5, in its words: "from leaving 11 until it is back there, whatever the others do, a task with k children moves once at each of
-- 12, 15, 16 and 17, k times at 14, and k + 1 times at each of 13 and 18." Over the turn that the contracts cite; the laws stand in `LoopLaws`.
use Rattle.std.specs.Prelude.{◌≡◌, List, [], ◌∷◌, ◌≢◌, ℕ, ◌+◌}
use Rattle.bitset.specs.Set.{size_of}
use Rattle.parents.specs.Parents.{children_of}
use Rattle.machine.specs.declared.State.{State}
use Rattle.machine.specs.Setters.{task_at}
use Rattle.machine.specs.Range.{table_of, Valid}
use Rattle.machine.specs.Turn.{turn_of}
use Rattle.barrier.specs.Times.{times_at}

-- "leaving 11": the task p has just left 11 where it is at 12, for 11 leads there, with the last move of its work, and nothing else does
-- (`leaves_11`, `only_11` in `LoopLaws`)
abbrev pub JustLeft : ℕ → State → Type 0
JustLeft p s = (task_at s p).line ≡ 12

-- "until it is back there": p is at 11 after the turns, for the first time: before each of them it is not.
-- "whatever the others do": the turns are of any tasks, in any order, and a refused one leaves the state.
abbrev pub FirstBack : ℕ → State → List ℕ → Type 0
FirstBack p s [] = (task_at s p).line ≡ 11
FirstBack p s (q ∷ ts) = ((task_at s p).line ≢ 11) × FirstBack p (turn_of s q).state ts

-- the numbers of the claim, in the order of the text
pub record LoopMoves (k : ℕ) (times : ℕ → ℕ) : Type 0 where
  pub at_12 : times 12 ≡ 1
  pub at_13 : times 13 ≡ k + 1
  pub at_14 : times 14 ≡ k
  pub at_15 : times 15 ≡ 1
  pub at_16 : times 16 ≡ 1
  pub at_17 : times 17 ≡ 1
  pub at_18 : times 18 ≡ k + 1

-- the claim, for every tree state in range; k is the size of the set of p's children
abbrev pub LoopClaim : Type 0
LoopClaim = (s : State) → Valid s → s.kind ≡ 3 → (p : ℕ) → JustLeft p s → (ts : List ℕ) → FirstBack p s ts
    → LoopMoves (size_of (children_of (table_of s) p)) (λ line. times_at p line s ts)
