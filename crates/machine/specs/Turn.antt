-- A turn (01, "The state and a turn"): what its line does to the state, what it answers, and the refusals.
use Rattle.std.specs.Prelude.{Bool, true, false, ℕ, eqb, ltb, Ok, Err}
use Rattle.bitset.specs.Choice.{pick}
use Rattle.lines.specs.declared.Task.{Task}
use Rattle.lines.specs.declared.Effect.{Effect}
use Rattle.lines.specs.declared.Act.{Act}
use Rattle.lines.specs.declared.Act.TheVariants.{Moves, Waits, Refuses}
use Rattle.lines.specs.declared.Write.{Write}
use Rattle.lines.specs.declared.Write.TheVariants.{Nothing, Arrivals, Sense, Toggle, Flag}
use Rattle.lines.specs.Setters.{with_toggle, with_flag}
use Rattle.lines.specs.Rule.{effect_from}
use Rattle.machine.specs.declared.State.{State}
use Rattle.machine.specs.declared.Move.{Move}
use Rattle.machine.specs.declared.Move.TheVariants.{Moved, Waited}
use Rattle.machine.specs.Answers.{Outcome}
use Rattle.machine.specs.declared.Turned.{Turned}
use Rattle.machine.specs.Setters.{task_at, moves_at, waits_at, with_task, with_arrivals, with_sense}
use Rattle.machine.specs.Tally.{max_tally, move_tallied, wait_tallied}
use Rattle.machine.specs.Range.{shared_of, table_of, check_state}
use Rattle.machine.specs.Least.{closed_by}

-- "Which rule applies is decided by the kind and the line number." What the line of the task t, which is p, does:
abbrev pub effect_by : State → ℕ → Task → Effect
effect_by s p t = effect_from (shared_of s) (table_of s) p t (task_at s t.looked)

unfoldable pub effect_of : State → ℕ → Effect
effect_of s p = effect_by s p (task_at s p)

-- what a turn answers: "moved (its line was carried out), waited (its line is an await whose condition is false ..) or a refusal".
-- 02, P2: "The answer moved now carries" whether it closed a round; waited and refused carry nothing.
-- 02, P3: "13 is a turn that would raise a tally past its limit; a turn checks it after 11": a move would raise its task's tally of moves, a wait
-- its tally of waits, and neither the other.
abbrev pub outcome_of : Act → ℕ → ℕ → ℕ → Outcome
outcome_of Moves closed moves waits = pick (ltb moves max_tally) (Ok (Moved closed)) (Err 13)
outcome_of Waits closed moves waits = pick (ltb waits max_tally) (Ok Waited) (Err 13)
outcome_of (Refuses k) closed moves waits = Err k

-- the state with a shared word written
abbrev pub written : Write → State → State
written Nothing s = s
written (Arrivals x) s = with_arrivals s x
written (Sense x) s = with_sense s x
written (Toggle q x) s = with_task s q (with_toggle (task_at s q) x)
written (Flag q x) s = with_task s q (with_flag (task_at s q) x)

-- what a move of p writes: the own task is stored, then the shared word
abbrev pub moved_to : State → ℕ → Task → Write → State
moved_to s p t w = written w (with_task s p t)

-- the answer of a turn of p, by what its line does: a move closes a round if the least count rises by it
abbrev pub answer_of : State → ℕ → Effect → Outcome
answer_of s p e = outcome_of e.act (closed_by s (moved_to s p e.task e.write)) (moves_at s p) (waits_at s p)

-- what the outcome makes of the state. 02, P3: a move is tallied too, and "a turn that waits now raises its task's wait tally by one and nothing
-- else". A refused turn leaves the state, and tallies nothing.
abbrev pub applied : Outcome → State → ℕ → Task → Write → State
applied (Ok (Moved closed)) s p t w = move_tallied (moved_to s p t w) p
applied (Ok Waited) s p t w = wait_tallied s p
applied (Err k) s p t w = s

-- one line of the task p, with the refusals of the line, reason 7 at line 13 of kind 1 or 4 and reason 11, and then reason 13
unfoldable pub step_of : State → ℕ → Turned
unfolding effect_of
step_of s p =
    let e = effect_of s p in
    record { state = applied (answer_of s p e) s p e.task e.write; outcome = answer_of s p e }

-- a refused call "returns its number and the state it got"
abbrev pub refused_turn : State → ℕ → Turned
refused_turn s k = record { state = s; outcome = Err k }

-- "A turn 7, 9, 11", and 13 after it; 9: "A task number is N or more"
unfoldable pub turn_of : State → ℕ → Turned
turn_of s p =
    pick (eqb (check_state s) 0)
    (pick (ltb p s.n) (step_of s p) (refused_turn s 9))
    (refused_turn s (check_state s))

-- the paper's numbers of an answer: 1 moved, 0 waited; the reason of a refusal, else 0
abbrev pub move_number : Move → ℕ
move_number (Moved closed) = 1
move_number Waited = 0

-- 1 for a turn that waited, 0 for one that moved
abbrev pub wait_number : Move → ℕ
wait_number (Moved closed) = 0
wait_number Waited = 1

abbrev pub reason_number : Outcome → ℕ
reason_number (Ok m) = 0
reason_number (Err k) = k

-- what the answer of a turn that was made carries: 1 if it closed a round, else 0; one that waited carries nothing, and closed none
abbrev pub closed_number : Move → ℕ
closed_number (Moved closed) = closed
closed_number Waited = 0

-- whether the answer is moved
abbrev pub is_moved : Outcome → Bool
is_moved (Ok (Moved closed)) = true
is_moved (Ok Waited) = false
is_moved (Err k) = false
