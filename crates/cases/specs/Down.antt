-- Cases of 02's P7, worked out by hand from the papers, one claim over the definitions that the contracts cite, shown by computation.
use Rattle.std.specs.Prelude.{◌≡◌, refl, List, [], ◌∷◌, map, ℕ, take, replicate, Ok, Some}
use Rattle.lines.specs.Setters.{with_aim, with_own}
use Rattle.machine.specs.declared.State.{State}
use Rattle.machine.specs.Setters.{task_at, with_task, with_arrivals}
use Rattle.machine.specs.Ready.{ready_from, ready_of}
use Rattle.parents.specs.Shapes.{shape_of}
use Rattle.cases.specs.Cases.{computing, fresh, after, lines, outcomes, moved, waited}
use Rattle.cases.specs.Rounds.{edited, sheet_turns}
use Rattle.cases.specs.Tallied.{moves_to, refused}
use Rattle.cases.specs.Worked.{reason}

-- two tasks, fresh
abbrev pub two : State
two = fresh 4 2 0 []

-- arrivals, shared sense, and the own senses of the first three tasks
abbrev pub words : State → List ℕ
words s = s.arrivals ∷ s.sense ∷ (task_at s 0).own ∷ (task_at s 1).own ∷ (task_at s 2).own ∷ []

-- the state with task q's own sense, or aim, changed
abbrev pub own_to : State → ℕ → ℕ → State
own_to s q x = with_task s q (with_own (task_at s q) x)

abbrev pub aim_to : State → ℕ → ℕ → State
aim_to s q x = with_task s q (with_aim (task_at s q) x)

-- one task at 13 with so many arrivals left, and a count
abbrev pub arriving : ℕ → ℕ → State
arriving arrivals count = with_arrivals (edited (fresh 4 1 0 []) 0 13 count) arrivals

pub record CountedDown : Type 0 where
  -- arrivals start at N, the shared sense and the own ones at 1; from N on there is 0, and so there is in kind 1
  pub begin : (words two ≡ 2 ∷ 1 ∷ 1 ∷ 1 ∷ 0 ∷ []) × (words (fresh 1 2 0 []) ≡ 0 ∷ 1 ∷ 0 ∷ 0 ∷ 0 ∷ [])
  -- the sheet's turns: 12 inverts the own sense and no other word, 13 lowers arrivals, 14 sets them back, 15 turns the shared sense
  pub steps : (words (after two (take 2 sheet_turns)) ≡ 2 ∷ 1 ∷ 0 ∷ 1 ∷ 0 ∷ []) × (words (after two (take 3 sheet_turns)) ≡ 1 ∷ 1 ∷ 0 ∷ 1 ∷ 0 ∷ [])
      × (words (after two (take 7 sheet_turns)) ≡ 0 ∷ 1 ∷ 0 ∷ 0 ∷ 0 ∷ []) × (words (after two (take 8 sheet_turns)) ≡ 2 ∷ 1 ∷ 0 ∷ 0 ∷ 0 ∷ [])
      × (words (after two (take 9 sheet_turns)) ≡ 2 ∷ 0 ∷ 0 ∷ 0 ∷ 0 ∷ [])
  -- they lead where kind 1's do, and are answered alike: task 0 to 16, task 1, the last to arrive, to 14
  pub sheet : (lines two sheet_turns ≡ 12 ∷ 13 ∷ 16 ∷ 16 ∷ 12 ∷ 13 ∷ 14 ∷ 15 ∷ 11 ∷ 11 ∷ []) × (lines two sheet_turns ≡ lines (fresh 1 2 0 []) sheet_turns)
      × (outcomes two sheet_turns ≡ moved 0 ∷ moved 0 ∷ moved 0 ∷ waited ∷ moved 0 ∷ moved 0 ∷ moved 1 ∷ moved 0 ∷ moved 0 ∷ moved 0 ∷ [])
  -- in the second round the senses come back to 1
  pub second : words (after (fresh 4 1 0 []) (replicate 10 0)) ≡ 1 ∷ 1 ∷ 1 ∷ 0 ∷ 0 ∷ []
  -- 13: arrivals of 1 lead to 14; with none left it is refused 7, before 11 and 13 and after 9
  pub arrivals : (lines (arriving 1 0) (0 ∷ []) ≡ 14 ∷ []) × (outcomes (arriving 0 0) (0 ∷ []) ≡ refused 7 ∷ []) × (outcomes (arriving 0 1000000) (0 ∷ []) ≡ refused 7 ∷ [])
      × (outcomes (moves_to (arriving 0 0) 0 4000000000) (0 ∷ []) ≡ refused 7 ∷ []) × (outcomes (arriving 1 1000000) (0 ∷ []) ≡ refused 11 ∷ [])
      × (outcomes (arriving 0 0) (1 ∷ []) ≡ refused 9 ∷ [])
  -- arrivals 0 to N; an own sense 0 or 1, and 0 from N on and in kind 1; no aim
  pub range : (outcomes (with_arrivals two 0) (0 ∷ []) ≡ moved 0 ∷ []) × (outcomes (with_arrivals two 3) (0 ∷ []) ≡ refused 7 ∷ [])
      × (outcomes (own_to two 1 0) (0 ∷ []) ≡ moved 0 ∷ []) × (outcomes (own_to two 1 2) (0 ∷ []) ≡ refused 7 ∷ []) × (outcomes (own_to two 2 1) (0 ∷ []) ≡ refused 7 ∷ [])
      × (outcomes (own_to (fresh 1 2 0 []) 1 1) (0 ∷ []) ≡ refused 7 ∷ []) × (outcomes (aim_to two 1 1) (0 ∷ []) ≡ refused 7 ∷ [])
  pub ready : (ready_of (after two (replicate 3 0))).ready ≡ Ok (Some 1)
  -- 2 admits kind 4 and not 5; R is 0, and there are no parents and no starts; work lengths as for every kind
  pub reasons : (reason 4 2 0 [] [] [] ≡ 0) × (reason 5 2 0 [] [] [] ≡ 2) × (reason 4 2 1 [] [] [] ≡ 4) × (reason 4 2 0 (0 ∷ 0 ∷ []) [] [] ≡ 5)
      × (reason 4 2 0 [] (0 ∷ 0 ∷ []) [] ≡ 12) × (reason 4 2 0 [] [] (0 ∷ 1 ∷ []) ≡ 15) × (reason 4 2 0 [] [] (3 ∷ 1 ∷ []) ≡ 0)
  -- shapes keep 0 to 3
  pub shapes : map (λ shape. shape_of shape 2 2) (3 ∷ 4 ∷ []) ≡ 0 ∷ 2 ∷ []

pub counted_down : CountedDown
unfolding computing ready_from ready_of
counted_down =
    record {
      begin = (refl, refl);
      steps = (refl, refl, refl, refl, refl);
      sheet = (refl, refl, refl);
      second = refl;
      arrivals = (refl, refl, refl, refl, refl, refl);
      range = (refl, refl, refl, refl, refl, refl, refl);
      ready = refl;
      reasons = (refl, refl, refl, refl, refl, refl, refl);
      shapes = refl;
    }
