-- The twelve marked cases of 01's table, one claim over the definitions that the contracts cite, shown by computation.
use Rattle.std.specs.Prelude.{◌≡◌, refl, List, [], ◌∷◌, ◌++◌, ℕ, replicate, Ok}
use Rattle.setup.specs.Tables.{all_within}
use Rattle.setup.specs.Reasons.{setup_reason}
use Rattle.setup.specs.Range.{shared_ok, task_ok, task_zero}
use Rattle.machine.specs.declared.State.{State}
use Rattle.machine.specs.declared.Setup.{Setup}
use Rattle.machine.specs.Setters.{task_at}
use Rattle.machine.specs.Fresh.{inputs_of, fresh_of, fresh_reason}
use Rattle.machine.specs.Range.{tasks_ok, state_ok, check_state}
use Rattle.lines.specs.Symmetric.{symmetric_line}
use Rattle.lines.specs.Increment.{increment_line}
use Rattle.lines.specs.Ring.{ring_line}
use Rattle.lines.specs.Tree.{tree_gather, tree_meet, tree_release}
use Rattle.lines.specs.Centralized.{centralized_line}
use Rattle.machine.specs.declared.Move.TheVariants.{Moved, Waited}
use Rattle.machine.specs.Answers.{Outcome}
use Rattle.machine.specs.Least.{least}
use Rattle.machine.specs.Turn.{effect_of, step_of, turn_of}
use Rattle.counts.specs.Counts.{lowest}
use Rattle.bitset.specs.Table.{table}
use Rattle.bitset.specs.Set.{put, within_digits, first_from}
use Rattle.parents.specs.Shapes.{shape_table, shape_of, table_after}
use Rattle.schedule.specs.Stretch.{names_all}
use Rattle.schedule.specs.Passes.{passes_from, pairs_from, unknown_at, passes_answer, pairs_after}
use Rattle.parents.specs.Parents.{entries_ok, check_of, children_below}
use Rattle.std.specs.Int.Count.{count_trailing_zeros}

-- Every definition that the cases compute by: a proof that unfolds this one unfolds them.
unfoldable pub computing : ℕ
unfolding least lowest fresh_of fresh_reason turn_of step_of effect_of check_state state_ok tasks_ok shared_ok task_ok task_zero all_within setup_reason symmetric_line increment_line ring_line tree_gather tree_meet tree_release centralized_line table within_digits put first_from count_trailing_zeros entries_ok check_of children_below names_all passes_from pairs_from unknown_at passes_answer pairs_after shape_table shape_of table_after
computing = 0

abbrev pub setup : ℕ → ℕ → ℕ → Setup
setup kind n modulus = record { kind = kind; n = n; modulus = modulus }

abbrev pub fresh : ℕ → ℕ → ℕ → List ℕ → State
fresh kind n modulus parents = (fresh_of (inputs_of (setup kind n modulus) parents [] [])).state

abbrev pub reason : ℕ → ℕ → ℕ → List ℕ → ℕ
reason kind n modulus parents = (fresh_of (inputs_of (setup kind n modulus) parents [] [])).reason

-- the state after the turns
abbrev pub after : State → List ℕ → State
after s [] = s
after s (p ∷ ts) = after (turn_of s p).state ts

-- the line of the named task after each turn
abbrev pub lines : State → List ℕ → List ℕ
lines s [] = []
lines s (p ∷ ts) = (task_at (turn_of s p).state p).line ∷ lines (turn_of s p).state ts

-- what each turn answers
abbrev pub outcomes : State → List ℕ → List Outcome
outcomes s [] = []
outcomes s (p ∷ ts) = (turn_of s p).outcome ∷ outcomes (turn_of s p).state ts

-- moved, with whether it closed a round
abbrev pub moved : ℕ → Outcome
moved closed = Ok (Moved closed)

abbrev pub waited : Outcome
waited = Ok Waited

-- "The sheet's input above", and the ring's ten turns
abbrev pub sheet_end : State
sheet_end = after (fresh 1 2 0 []) (0 ∷ 0 ∷ 0 ∷ 0 ∷ 1 ∷ 1 ∷ 1 ∷ 1 ∷ 1 ∷ 0 ∷ [])

abbrev pub ring_turns : List ℕ
ring_turns = 0 ∷ 0 ∷ 0 ∷ 1 ∷ 1 ∷ 1 ∷ 0 ∷ 0 ∷ 1 ∷ 1 ∷ []

abbrev pub ring_end : State
ring_end = after (fresh 2 2 0 []) ring_turns

abbrev pub tree_pair : State
tree_pair = fresh 3 2 0 (0 ∷ 0 ∷ [])

pub record Marked : Type 0 where
  -- "Symmetric, N 1, R 3, five turns of 0: lines 12, 13, 14, 13, 11; count 1, tag 1."
  pub symmetric : (lines (fresh 0 1 3 []) (replicate 5 0) ≡ 12 ∷ 13 ∷ 14 ∷ 13 ∷ 11 ∷ [])
      × ((task_at (after (fresh 0 1 3 []) (replicate 5 0)) 0).count ≡ 1) × ((task_at (after (fresh 0 1 3 []) (replicate 5 0)) 0).tag ≡ 1)
  -- "The sheet's input above: both tasks at 11, counts 1, sense 0, arrivals 0."
  pub sheet : ((task_at sheet_end 0).line ≡ 11) × ((task_at sheet_end 1).line ≡ 11) × ((task_at sheet_end 0).count ≡ 1) × ((task_at sheet_end 1).count ≡ 1)
      × (sheet_end.sense ≡ 0) × (sheet_end.arrivals ≡ 0)
  -- "Ring, N 2, turns 1 1: moved, waited; task 1 at 12."
  pub ring_waits : (outcomes (fresh 2 2 0 []) (1 ∷ 1 ∷ []) ≡ moved 0 ∷ waited ∷ []) × ((task_at (after (fresh 2 2 0 []) (1 ∷ 1 ∷ [])) 1).line ≡ 12)
  -- "Ring, N 2, turns 0 0 0 1 1 1 0 0 1 1: all moved; both at 11, counts 1, toggles 0."
  pub ring_round : (outcomes (fresh 2 2 0 []) ring_turns ≡ replicate 5 (moved 0) ++ moved 1 ∷ replicate 4 (moved 0))
      × ((task_at ring_end 0).line ≡ 11) × ((task_at ring_end 1).line ≡ 11) × ((task_at ring_end 0).count ≡ 1) × ((task_at ring_end 1).count ≡ 1)
      × ((task_at ring_end 0).toggle ≡ 0) × ((task_at ring_end 1).toggle ≡ 0)
  -- "Tree, parents 0 0, turns 0 0 0 0: the fourth waited at 14."
  pub tree_waits : (outcomes tree_pair (replicate 4 0) ≡ moved 0 ∷ moved 0 ∷ moved 0 ∷ waited ∷ []) × ((task_at (after tree_pair (replicate 4 0)) 0).line ≡ 14)
  -- "Tree, N 1, seven turns: lines 12, 13, 15, 16, 17, 18, 11."
  pub tree_one : lines (fresh 3 1 0 (0 ∷ [])) (replicate 7 0) ≡ 12 ∷ 13 ∷ 15 ∷ 16 ∷ 17 ∷ 18 ∷ 11 ∷ []
  -- "R 2 refused 4, R 3 accepted."
  pub modulus : (reason 0 2 2 [] ≡ 4) × (reason 0 2 3 [] ≡ 0)
  -- "N 0 and 65 refused 3, 64 accepted."
  pub tasks : (reason 0 0 3 [] ≡ 3) × (reason 0 65 3 [] ≡ 3) × (reason 0 64 3 [] ≡ 0)
  -- "Parents 0 1 refused 6, 0 0 accepted."
  pub parents : (reason 3 2 0 (0 ∷ 1 ∷ []) ≡ 6) × (reason 3 2 0 (0 ∷ 0 ∷ []) ≡ 0)
  -- "N 2, schedule 0 0 1 0 1 1: pairs (0, 3), (3, 2)."
  pub pairs : (passes_answer 2 (0 ∷ 0 ∷ 1 ∷ 0 ∷ 1 ∷ 1 ∷ []) 4 ≡ Ok 2)
      × (pairs_after 2 (0 ∷ 0 ∷ 1 ∷ 0 ∷ 1 ∷ 1 ∷ []) (replicate 4 9) ≡ 0 ∷ 3 ∷ 3 ∷ 2 ∷ [])
  -- "N 6, binary 0 0 0 1 1 2."
  pub binary : (shape_of 2 6 6 ≡ 0) × (table_after 2 6 (replicate 6 9) ≡ 0 ∷ 0 ∷ 0 ∷ 1 ∷ 1 ∷ 2 ∷ [])
  -- "N 6, low power 0 0 0 2 0 4."
  pub low_power : (shape_of 3 6 6 ≡ 0) × (table_after 3 6 (replicate 6 9) ≡ 0 ∷ 0 ∷ 0 ∷ 2 ∷ 0 ∷ 4 ∷ [])

pub marked : Marked
unfolding computing
marked =
    record {
      symmetric = (refl, refl, refl);
      sheet = (refl, refl, refl, refl, refl, refl);
      ring_waits = (refl, refl);
      ring_round = (refl, refl, refl, refl, refl, refl, refl);
      tree_waits = (refl, refl);
      tree_one = refl;
      modulus = (refl, refl);
      tasks = (refl, refl, refl);
      parents = (refl, refl);
      pairs = (refl, refl);
      binary = (refl, refl);
      low_power = (refl, refl);
    }
