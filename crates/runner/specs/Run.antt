-- A run (01, "Run" and the reasons): everything is read off one trace.
use Rattle.std.specs.Prelude.{List, [], ◌∷◌, ◌++◌, ℕ, ◌+◌, ◌*◌, min, eqb, leb, ltb, length, take, drop, replicate, Result, Ok, Err}
use Rattle.bitset.specs.Choice.{pick}
use Rattle.reason.specs.declared.PlacedRefusal.{PlacedRefusal}
use Rattle.reason.specs.Placed.{placed, checked_at}
use Rattle.bitset.specs.Table.{table}
use Rattle.machine.specs.declared.State.{State}
use Rattle.machine.specs.declared.Move.{Move}
use Rattle.machine.specs.Answers.{Outcome}
use Rattle.machine.specs.Range.{check_state}
use Rattle.machine.specs.Turn.{move_number, wait_number, closed_number}
use Rattle.schedule.specs.Passes.{max_turns, unknown_at, all_tasks}
use Rattle.runner.specs.declared.Ending.{Ending}
use Rattle.runner.specs.declared.Ending.TheVariants.{Done, Spent, Stopped, Refused}
use Rattle.runner.specs.declared.Ran.{Ran}
use Rattle.runner.specs.Trace.{Row, Stop, nothing, refusal, Trace, trace_of}

-- the turns made that named task q, each counted as `weight` says
unfoldable pub tally_in : (Move → ℕ) → List Row → ℕ → ℕ
tally_in weight [] q = 0
tally_in weight (r ∷ rs) q = pick (eqb r.task q) (weight r.how) 0 + tally_in weight rs q

-- "each task's moves and waits", of this run
abbrev pub moves_in : List Row → ℕ → ℕ
moves_in rs q = tally_in move_number rs q

abbrev pub waits_in : List Row → ℕ → ℕ
waits_in rs q = tally_in wait_number rs q

-- 02, P2: "A run adds the number of rounds it closed": the moves that carry 1
unfoldable pub rounds_in : List Row → ℕ
rounds_in [] = 0
rounds_in (r ∷ rs) = pick (eqb (closed_number r.how) 1) 1 0 + rounds_in rs

-- "each turn's two bytes .. : the line before the turn, then 1 moved or 0 waited"
unfoldable pub log_of : List Row → List ℕ
log_of [] = []
log_of (r ∷ rs) = r.line ∷ move_number r.how ∷ log_of rs

-- "the ending: all done, allowance spent (only where the schedule is longer),
abbrev pub unstopped : ℕ → ℕ → Ending
unstopped allowance turns = pick (ltb allowance turns) Spent Done

-- or the number, 7 or 11, of the turn refused"; 02, P3: 13 "ends a run as 11 does"
abbrev pub ending_of : Stop → Ending → Ending
ending_of nothing end = end
ending_of (refusal p k) end = Stopped k

-- the same by a turn's answer
abbrev pub ending_by : Outcome → Ending → Ending
ending_by (Ok how) end = end
ending_by (Err k) end = Stopped k

-- the paper's number of an ending: the reason, 0 where nothing was refused
abbrev pub ending_reason : Ending → ℕ
ending_reason Done = 0
ending_reason Spent = 0
ending_reason (Stopped k) = k
ending_reason (Refused r) = r.refusal

-- "A run 7 to 10"; 10: a "log under twice the smaller of allowance and schedule length", of `room` bytes here
unfoldable pub run_reason : State → List ℕ → ℕ → ℕ → ℕ
run_reason s schedule allowance room =
    pick (eqb (check_state s) 0)
    (pick (leb (length schedule) max_turns)
    (pick (all_tasks s.n schedule)
    (pick (leb (2 * min allowance (length schedule)) room) 0 10)
    9)
    8)
    (check_state s)

-- "every other number in the answer is 0 but the place of 9"
abbrev pub run_place : State → List ℕ → ℕ → ℕ
run_place s schedule reason = pick (eqb reason 9) (unknown_at s.n schedule) 0

-- the two, as the code says them
abbrev pub admission : State → List ℕ → ℕ → ℕ → Result Unit PlacedRefusal
admission s schedule allowance room =
    checked_at (run_reason s schedule allowance room) (run_place s schedule (run_reason s schedule allowance room))

-- "A run makes at most as many turns as its allowance."
abbrev pub run_trace : State → List ℕ → ℕ → Trace
run_trace s schedule allowance = trace_of s (take allowance schedule)

-- what a run that is not refused as a whole gives; it ends as `end` says where no turn is refused
abbrev pub ran_of : Trace → Ending → Ran
ran_of t end =
    record {
      state = t.state;
      ending = ending_of t.stop end;
      turns = length t.made;
      rounds = rounds_in t.made;
      moves = table 64 (moves_in t.made);
      waits = table 64 (waits_in t.made);
    }

-- "A refused call returns its number and the state it got, every other number in the answer is 0 but the place of 9"
abbrev pub refused_run : State → ℕ → ℕ → Ran
refused_run s reason place =
    record {
      state = s;
      ending = Refused (placed reason place);
      turns = 0;
      rounds = 0;
      moves = replicate 64 0;
      waits = replicate 64 0;
    }

unfoldable pub run_of : State → List ℕ → ℕ → List ℕ → Ran
run_of s schedule allowance log =
    pick (eqb (run_reason s schedule allowance (length log)) 0)
    (ran_of (run_trace s schedule allowance) (unstopped allowance (length schedule)))
    (refused_run s (run_reason s schedule allowance (length log)) (run_place s schedule (run_reason s schedule allowance (length log))))

-- the log with the turns made written to it: "Log bytes beyond the turns made don't change"
abbrev pub logged_of : Trace → List ℕ → List ℕ
logged_of t log = log_of t.made ++ drop (2 * length t.made) log

-- a refused call "writes to no buffer"
unfoldable pub log_after : State → List ℕ → ℕ → List ℕ → List ℕ
log_after s schedule allowance log =
    pick (eqb (run_reason s schedule allowance (length log)) 0) (logged_of (run_trace s schedule allowance) log) log
