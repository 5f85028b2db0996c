-- Cases of 02's P3, worked out by hand from the papers, one claim over the definitions that the contracts cite, shown by computation.
use Rattle.std.specs.Prelude.{◌≡◌, refl, List, [], ◌∷◌, ℕ, set, take, drop, replicate, Ok, Err, Some, None}
use Rattle.reason.specs.Placed.{placed}
use Rattle.machine.specs.declared.State.{State}
use Rattle.machine.specs.Answers.{Outcome}
use Rattle.machine.specs.Setters.{with_moves, with_waits, with_arrivals}
use Rattle.machine.specs.Turn.{turn_of}
use Rattle.machine.specs.Ready.{ready_from, ready_of}
use Rattle.runner.specs.declared.Ending.TheVariants.{Stopped, Refused}
use Rattle.runner.specs.Trace.{trace_of}
use Rattle.runner.specs.Run.{tally_in, rounds_in, log_of, run_reason, run_of, log_after}
use Rattle.cases.specs.Cases.{computing, fresh, after, outcomes, moved, waited}
use Rattle.cases.specs.Rounds.{ran, edited, sheet_turns}

-- the tallies of the first two tasks, moves and waits
abbrev pub first_two : State → List (List ℕ)
first_two s = take 2 s.moves ∷ take 2 s.waits ∷ []

-- the state with a tally of task q changed
abbrev pub moves_to : State → ℕ → ℕ → State
moves_to s q x = with_moves s (set s.moves q x)

abbrev pub waits_to : State → ℕ → ℕ → State
waits_to s q x = with_waits s (set s.waits q x)

abbrev pub refused : ℕ → Outcome
refused k = Err k

-- two tasks of the ring: task 0 can move at 12 from the start, and task 1 waits there
abbrev pub two : State
two = fresh 2 2 0 []

abbrev pub both_at_12 : State
both_at_12 = after two (0 ∷ 1 ∷ [])

pub record Tallied : Type 0 where
  -- the sheet's example (01): task 0 moves 4 times and waits once, task 1 moves 5 times
  pub sheet : first_two (after (fresh 1 2 0 []) sheet_turns) ≡ (4 ∷ 5 ∷ []) ∷ (1 ∷ 0 ∷ []) ∷ []
  -- the same in two runs, of 4 turns and of 6: each tells its own moves and waits, and the state has those of both
  pub cut : let s = fresh 1 2 0 [] in let first = ran s (take 4 sheet_turns) in let second = ran first.state (drop 4 sheet_turns) in
      (take 2 first.moves ≡ 3 ∷ 0 ∷ []) × (take 2 first.waits ≡ 1 ∷ 0 ∷ []) × (take 2 second.moves ≡ 1 ∷ 5 ∷ [])
      × (take 2 second.waits ≡ 0 ∷ 0 ∷ []) × (first_two second.state ≡ (4 ∷ 5 ∷ []) ∷ (1 ∷ 0 ∷ []) ∷ [])
  -- a turn that waits changes its tally of waits and nothing else
  pub waiting : (turn_of both_at_12 1).state ≡ waits_to both_at_12 1 1
  -- one below its limit a tally is raised, at it the turn is refused 13: a move by its tally of moves, a wait by that of waits, neither by the other
  pub moving : (outcomes (moves_to two 0 3999999999) (0 ∷ 0 ∷ []) ≡ moved 0 ∷ refused 13 ∷ []) × (outcomes (waits_to two 0 4000000000) (0 ∷ []) ≡ moved 0 ∷ [])
  pub awaiting : (outcomes (waits_to both_at_12 1 3999999999) (1 ∷ 1 ∷ []) ≡ waited ∷ refused 13 ∷ [])
      × (outcomes (moves_to both_at_12 1 4000000000) (1 ∷ []) ≡ waited ∷ [])
  -- a tally above its limit, or of a task from N on, is out of range
  pub range : (outcomes (moves_to two 1 4000000001) (0 ∷ []) ≡ refused 7 ∷ []) × (outcomes (waits_to two 1 4000000001) (0 ∷ []) ≡ refused 7 ∷ [])
      × (outcomes (moves_to two 2 1) (0 ∷ []) ≡ refused 7 ∷ []) × (outcomes (waits_to two 63 1) (0 ∷ []) ≡ refused 7 ∷ [])
  -- 9, the 7 of line 13 and 11 come before 13
  pub order : (outcomes (moves_to two 0 4000000000) (2 ∷ []) ≡ refused 9 ∷ [])
      × (outcomes (moves_to (with_arrivals (edited (fresh 1 1 0 []) 0 13 0) 1) 0 4000000000) (0 ∷ []) ≡ refused 7 ∷ [])
      × (outcomes (moves_to (edited (fresh 1 1 0 []) 0 13 1000000) 0 4000000000) (0 ∷ []) ≡ refused 11 ∷ [])
  -- ready skips a task whose tally of moves is full, and asks for no tally of waits
  pub ready : ((ready_of two).ready ≡ Ok (Some 0)) × ((ready_of (moves_to two 0 4000000000)).ready ≡ Ok (Some 1))
      × ((ready_of (moves_to (moves_to two 0 4000000000) 1 4000000000)).ready ≡ (Ok None)) × ((ready_of (waits_to two 0 4000000000)).ready ≡ Ok (Some 0))
  -- reason 13 ends a run: the turns before it are kept and logged, and that turn is neither made nor logged
  pub stopped : let s = moves_to (fresh 1 1 0 []) 0 3999999997 in
      ((ran s (replicate 5 0)).ending ≡ Stopped 13) × ((ran s (replicate 5 0)).turns ≡ 3) × ((ran s (replicate 5 0)).rounds ≡ 1)
      × (take 1 (ran s (replicate 5 0)).moves ≡ 3 ∷ []) × (take 1 (ran s (replicate 5 0)).state.moves ≡ 4000000000 ∷ [])
      × (log_after s (replicate 5 0) 5 (replicate 10 9) ≡ 11 ∷ 1 ∷ 12 ∷ 1 ∷ 13 ∷ 1 ∷ 9 ∷ 9 ∷ 9 ∷ 9 ∷ [])
  -- a run that is refused as a whole tallies nothing
  pub whole : ((ran two (0 ∷ 2 ∷ [])).ending ≡ Refused (placed 9 1)) × ((ran two (0 ∷ 2 ∷ [])).state ≡ two)

pub tallied : Tallied
unfolding computing run_of run_reason log_after trace_of tally_in rounds_in log_of ready_from ready_of
tallied =
    record {
      sheet = refl;
      cut = (refl, refl, refl, refl, refl);
      waiting = refl;
      moving = (refl, refl);
      awaiting = (refl, refl);
      range = (refl, refl, refl, refl);
      order = (refl, refl, refl);
      ready = (refl, refl, refl, refl);
      stopped = (refl, refl, refl, refl, refl, refl);
      whole = (refl, refl);
    }
