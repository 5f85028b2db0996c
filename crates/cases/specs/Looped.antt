-- Cases of 02's P5, worked out by hand from the papers, one claim over the definitions that the contracts cite, shown by computation.
use Rattle.std.specs.Prelude.{◌≡◌, refl, List, [], ◌∷◌, ◌++◌, map, ℕ, replicate}
use Rattle.machine.specs.declared.State.{State}
use Rattle.machine.specs.Setters.{task_at}
use Rattle.machine.specs.Turn.{turn_of}
use Rattle.barrier.specs.Times.{times_at}
use Rattle.cases.specs.Cases.{computing, fresh, after}

-- the line of p before each turn, and after the last
abbrev pub course : ℕ → State → List ℕ → List ℕ
course p s [] = (task_at s p).line ∷ []
course p s (q ∷ ts) = (task_at s p).line ∷ course p (turn_of s q).state ts

-- how many times p moves at each of these lines
abbrev pub times : ℕ → State → List ℕ → List ℕ → List ℕ
times p s ts = map (λ (line : ℕ). times_at p line s ts)

-- task 0 has just left 11: alone, and with the children 1 and 2
abbrev pub alone : State
alone = after (fresh 3 1 0 (0 ∷ [])) (0 ∷ [])

abbrev pub parent : State
parent = after (fresh 3 3 0 (0 ∷ 0 ∷ 0 ∷ [])) (0 ∷ [])

-- it waits for 1 at 14 until 1 has passed 15, takes 2 likewise, and lets both go; there is no task 3, whose turn is refused
abbrev pub turns : List ℕ
turns = 0 ∷ 0 ∷ 0 ∷ 1 ∷ 1 ∷ 1 ∷ 1 ∷ 0 ∷ 3 ∷ 0 ∷ 2 ∷ 2 ∷ 2 ∷ 2 ∷ replicate 8 0

pub record Looped : Type 0 where
  pub no_child : (course 0 alone (replicate 6 0) ≡ 12 ∷ 13 ∷ 15 ∷ 16 ∷ 17 ∷ 18 ∷ 11 ∷ [])
      × (times 0 alone (replicate 6 0) (12 ∷ 13 ∷ 14 ∷ 15 ∷ 16 ∷ 17 ∷ 18 ∷ []) ≡ 1 ∷ 1 ∷ 0 ∷ 1 ∷ 1 ∷ 1 ∷ 1 ∷ [])
  pub two_children : (course 0 parent turns ≡ 12 ∷ 13 ∷ replicate 6 14 ++ 13 ∷ 13 ∷ replicate 5 14 ++ 13 ∷ 15 ∷ 16 ∷ 17 ∷ 18 ∷ 18 ∷ 18 ∷ 11 ∷ [])
      × (times 0 parent turns (13 ∷ 14 ∷ 18 ∷ []) ≡ 3 ∷ 2 ∷ 3 ∷ [])

pub looped : Looped
unfolding computing
looped = record { no_child = (refl, refl); two_children = (refl, refl) }
