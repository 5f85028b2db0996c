-- Cases of 02's P1, worked out by hand from the paper, one claim over the definitions that the contracts cite, shown by computation.
use Rattle.std.specs.Prelude.{◌≡◌, refl, List, [], ◌∷◌, ℕ, replicate}
use Rattle.machine.specs.declared.State.{State}
use Rattle.machine.specs.Setters.{task_at}
use Rattle.machine.specs.Fresh.{inputs_of, fresh_of}
use Rattle.machine.specs.Turn.{turn_of}
use Rattle.cases.specs.Cases.{computing, setup, after}

-- a symmetric state with R 3 and a start table, and the reason of a call with one
abbrev pub fresh : ℕ → List ℕ → State
fresh n starts = (fresh_of (inputs_of (setup 0 n 3) [] starts [])).state

abbrev pub reason : ℕ → ℕ → ℕ → List ℕ → List ℕ → ℕ
reason kind n modulus parents starts = (fresh_of (inputs_of (setup kind n modulus) parents starts [])).reason

-- the task that the named task looks at after each turn
abbrev pub looks : State → List ℕ → List ℕ
looks s [] = []
looks s (p ∷ ts) = (task_at (turn_of s p).state p).looked ∷ looks (turn_of s p).state ts

-- N 3, starts 1 2 0: all three have left 12, so that each lists 0, 1 and 2, and no tag is an old one
abbrev pub three : State
three = after (fresh 3 (1 ∷ 2 ∷ 0 ∷ [])) (0 ∷ 1 ∷ 2 ∷ 0 ∷ 1 ∷ 2 ∷ [])

abbrev pub circuit : List ℕ
circuit = 0 ∷ 1 ∷ 2 ∷ []

pub record Started : Type 0 where
  -- a round robin: line 13 in the third, fifth and seventh circuit, line 14 between them. Task 0 takes 1, 2 and then 0; task 1 takes 2, 0
  -- and then 1; task 2 takes 0, 1 and then 2.
  pub third : looks three circuit ≡ 1 ∷ 2 ∷ 0 ∷ []
  pub fifth : looks (after three (0 ∷ 1 ∷ 2 ∷ 0 ∷ 1 ∷ 2 ∷ [])) circuit ≡ 2 ∷ 0 ∷ 1 ∷ []
  pub seventh : looks (after three (0 ∷ 1 ∷ 2 ∷ 0 ∷ 1 ∷ 2 ∷ 0 ∷ 1 ∷ 2 ∷ 0 ∷ 1 ∷ 2 ∷ [])) circuit ≡ 0 ∷ 1 ∷ 2 ∷ []
  -- N 64, start 63: the last task is taken first
  pub last : looks (fresh 64 (replicate 64 63)) (0 ∷ 0 ∷ 0 ∷ []) ≡ 0 ∷ 0 ∷ 63 ∷ []
  -- N 1: its only start is 0
  pub one : looks (fresh 1 (0 ∷ [])) (0 ∷ 0 ∷ 0 ∷ []) ≡ 0 ∷ 0 ∷ 0 ∷ []
  -- 12: a length that is neither 0 nor N, an entry of N, a table for a ring; after 6
  pub refused : (reason 0 2 3 [] (0 ∷ []) ≡ 12) × (reason 0 2 3 [] (0 ∷ 0 ∷ 0 ∷ []) ≡ 12) × (reason 0 2 3 [] (0 ∷ 2 ∷ []) ≡ 12)
      × (reason 2 2 0 [] (0 ∷ 0 ∷ []) ≡ 12) × (reason 3 2 0 (0 ∷ 1 ∷ []) (0 ∷ 0 ∷ []) ≡ 6)
  pub taken : (reason 0 2 3 [] [] ≡ 0) × (reason 0 2 3 [] (1 ∷ 1 ∷ []) ≡ 0) × (reason 3 2 0 (0 ∷ 0 ∷ []) [] ≡ 0)

pub started : Started
unfolding computing
started =
    record {
      third = refl;
      fifth = refl;
      seventh = refl;
      last = refl;
      one = refl;
      refused = (refl, refl, refl, refl, refl);
      taken = (refl, refl, refl);
    }
