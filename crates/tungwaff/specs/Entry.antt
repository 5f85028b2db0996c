-- What the exported functions answer: each is a call of the library, and its answer is told by numbers. A reason is 0 where nothing was refused.
use Rattle.std.specs.Prelude.{Bool, List, ℕ, eqb, length, Err, Result, Ok}
use Rattle.bitset.specs.Choice.{pick}
use Rattle.reason.specs.Checked.{answered}
use Rattle.parents.specs.Shapes.{shape_of, table_after}
use Rattle.schedule.specs.Passes.{passes_answer, passes_reason, passes_count, passes_place, pairs_after}
use Rattle.setup.specs.Reasons.{first_reason}
use Rattle.machine.specs.declared.Turned.{Turned}
use Rattle.machine.specs.Answers.{Ready}
use Rattle.machine.specs.declared.State.{State}
use Rattle.machine.specs.Fresh.{Inputs, inputs_of, fresh_of, zero_state}
use Rattle.machine.specs.Turn.{refused_turn, turn_of, reason_number}
use Rattle.machine.specs.Ready.{ready_of, ready_reason, ready_number}
use Rattle.runner.specs.declared.Ran.{Ran}
use Rattle.runner.specs.Run.{refused_run, ending_reason}
use Rattle.playback.specs.declared.Played.{Played}
use Rattle.playback.specs.Playback.{Report, play_of, verdict_reason, verdict_agrees, verdict_index}
use Rattle.numbers.specs.Numbers.{ending_place, turn_number, turn_closed}
use Rattle.reader.specs.Read.{Told, said_of, parents_in, turns_in, read_within}
use Rattle.sheet_text.specs.Print.{sheet_of, page_of}
use Rattle.rows.specs.Rows.{turn_room, task_room, is_refused, listed_of, listed_log, turn_rows_after, task_rows_after}
use Rattle.snapshot.specs.Snapshot.{room_reason, saved_to, load_of, load_answer}

-- the inputs of a fresh state, from numbers
abbrev pub inputs_from : ℕ → ℕ → ℕ → List ℕ → List ℕ → List ℕ → Inputs
inputs_from kind n modulus parents starts works = inputs_of (record { kind = kind; n = n; modulus = modulus }) parents starts works

-- ---- a fresh state, saved to a list of numbers

-- a fresh state's reasons, then 10 for a short list
abbrev pub fresh_into : Inputs → List ℕ → ℕ
fresh_into i list = first_reason (fresh_of i).reason (room_reason list)

-- the list after it; a refused call "writes to no buffer"
unfoldable pub fresh_list : Inputs → List ℕ → List ℕ
fresh_list i list = pick (eqb (fresh_of i).reason 0) (saved_to (fresh_of i).state list) list

-- ---- runs

-- what a run begins with: a fresh state, or the state that a list keeps; or the reason that refused it
abbrev pub Begun : Type 0
Begun = Result State ℕ

abbrev pub freshly : Inputs → Begun
freshly i = answered (fresh_of i).state (fresh_of i).reason

abbrev pub kept_in : List ℕ → Begun
kept_in list = load_answer (load_of list)

-- the state, all 0 where it was refused
abbrev pub state_in : Begun → State
state_in (Ok s) = s
state_in (Err k) = zero_state

-- the run's answer; where there is no state to begin with, that of a refused run. `ok` says whether the list for its numbers has room.
abbrev pub ran_from : Begun → List ℕ → ℕ → List ℕ → Bool → Ran
ran_from (Ok s) schedule allowance log ok = listed_of s schedule allowance log ok
ran_from (Err k) schedule allowance log ok = refused_run zero_state k 0

-- the log, and the list of the tasks' or of the turns' numbers, after it
abbrev pub log_from : Begun → List ℕ → ℕ → List ℕ → Bool → List ℕ
log_from (Ok s) schedule allowance log ok = listed_log s schedule allowance log ok
log_from (Err k) schedule allowance log ok = log

abbrev pub tasks_from : Begun → List ℕ → ℕ → List ℕ → List ℕ → List ℕ
tasks_from (Ok s) schedule allowance log tasks = task_rows_after s schedule allowance log tasks
tasks_from (Err k) schedule allowance log tasks = tasks

abbrev pub rows_from : Begun → List ℕ → ℕ → List ℕ → List ℕ → List ℕ
rows_from (Ok s) schedule allowance log rows = turn_rows_after s schedule allowance log rows
rows_from (Err k) schedule allowance log rows = rows

-- with a list for the tasks' numbers, and with one for the turns'
abbrev pub tasks_ran : Begun → List ℕ → ℕ → List ℕ → List ℕ → Ran
tasks_ran b schedule allowance log tasks = ran_from b schedule allowance log (task_room (state_in b) (length tasks))

abbrev pub tasks_log : Begun → List ℕ → ℕ → List ℕ → List ℕ → List ℕ
tasks_log b schedule allowance log tasks = log_from b schedule allowance log (task_room (state_in b) (length tasks))

abbrev pub rows_ran : Begun → List ℕ → ℕ → List ℕ → List ℕ → Ran
rows_ran b schedule allowance log rows = ran_from b schedule allowance log (turn_room schedule allowance (length rows))

abbrev pub rows_log : Begun → List ℕ → ℕ → List ℕ → List ℕ → List ℕ
rows_log b schedule allowance log rows = log_from b schedule allowance log (turn_room schedule allowance (length rows))

-- the list that keeps the state, after the run: a run that was refused as a whole leaves it
unfoldable pub kept_after : Ran → List ℕ → List ℕ
kept_after ran list = pick (is_refused ran.ending) list (saved_to ran.state list)

-- ---- a turn, and who is ready

-- a turn of the task p; a state that was refused has none
abbrev pub turned_from : Begun → ℕ → Turned
turned_from (Ok s) p = turn_of s p
turned_from (Err k) p = refused_turn zero_state k

-- the list that keeps the state, after the turn; a refused one leaves it
unfoldable pub turn_list : List ℕ → ℕ → List ℕ
turn_list list p =
    let turned = turned_from (kept_in list) p in
    pick (eqb (reason_number turned.outcome) 0) (saved_to turned.state list) list

abbrev pub ready_kept : Begun → Ready
ready_kept (Ok s) = (ready_of s).ready
ready_kept (Err k) = Err k

-- ---- what each exported function answers: its own number (`reason`, where it has one), those that it tells, and what was lent to be written

-- `tungwaff_fresh`
pub record FreshAnswer : Type 0 where
  pub reason : ℕ
  pub list : List ℕ

abbrev pub fresh_told : Inputs → List ℕ → FreshAnswer
fresh_told i list = record { reason = fresh_into i list; list = fresh_list i list }

-- the numbers of a run: why it or a turn of it was refused, the turns made, the place of a 9, and the rounds closed
pub record RunNumbers : Type 0 where
  pub reason : ℕ
  pub turns : ℕ
  pub place : ℕ
  pub rounds : ℕ

abbrev pub numbers_of : Ran → RunNumbers
numbers_of ran = record { reason = ending_reason ran.ending; turns = ran.turns; place = ending_place ran.ending; rounds = ran.rounds }

-- `tungwaff_run`
pub record RunAnswer : Type 0 where
  pub numbers : RunNumbers
  pub log : List ℕ
  pub tasks : List ℕ

abbrev pub run_told : Inputs → List ℕ → ℕ → List ℕ → List ℕ → RunAnswer
run_told i schedule allowance log tasks =
    let b = freshly i in
    record {
      numbers = numbers_of (tasks_ran b schedule allowance log tasks);
      log = tasks_log b schedule allowance log tasks;
      tasks = tasks_from b schedule allowance log tasks;
    }

-- `tungwaff_resume`, with the list that keeps the state
pub record ResumeAnswer : Type 0 where
  pub numbers : RunNumbers
  pub log : List ℕ
  pub tasks : List ℕ
  pub list : List ℕ

abbrev pub resume_told : List ℕ → List ℕ → ℕ → List ℕ → List ℕ → ResumeAnswer
resume_told list schedule allowance log tasks =
    let b = kept_in list in
    record {
      numbers = numbers_of (tasks_ran b schedule allowance log tasks);
      log = tasks_log b schedule allowance log tasks;
      tasks = tasks_from b schedule allowance log tasks;
      list = kept_after (tasks_ran b schedule allowance log tasks) list;
    }

-- `tungwaff_rows`, likewise
pub record RowsAnswer : Type 0 where
  pub numbers : RunNumbers
  pub log : List ℕ
  pub rows : List ℕ
  pub list : List ℕ

abbrev pub rows_told : List ℕ → List ℕ → ℕ → List ℕ → List ℕ → RowsAnswer
rows_told list schedule allowance log rows =
    let b = kept_in list in
    record {
      numbers = numbers_of (rows_ran b schedule allowance log rows);
      log = rows_log b schedule allowance log rows;
      rows = rows_from b schedule allowance log rows;
      list = kept_after (rows_ran b schedule allowance log rows) list;
    }

-- `tungwaff_turn`
pub record TurnAnswer : Type 0 where
  pub reason : ℕ
  pub moved : ℕ
  pub closed : ℕ
  pub list : List ℕ

abbrev pub turn_told : List ℕ → ℕ → TurnAnswer
turn_told list p =
    let outcome = (turned_from (kept_in list) p).outcome in
    record { reason = reason_number outcome; moved = turn_number outcome; closed = turn_closed outcome; list = turn_list list p }

-- `tungwaff_ready`
pub record ReadyAnswer : Type 0 where
  pub reason : ℕ
  pub task : ℕ

abbrev pub ready_told : List ℕ → ReadyAnswer
ready_told list = let ready = ready_kept (kept_in list) in
    record { reason = ready_reason ready; task = ready_number ready }

-- `tungwaff_passes`
pub record PassesAnswer : Type 0 where
  pub reason : ℕ
  pub count : ℕ
  pub place : ℕ
  pub pairs : List ℕ

abbrev pub passes_told : ℕ → List ℕ → List ℕ → PassesAnswer
passes_told n schedule pairs =
    let answer = passes_answer n schedule (length pairs) in
    record { reason = passes_reason answer; count = passes_count answer; place = passes_place answer; pairs = pairs_after n schedule pairs }

-- `tungwaff_shape`
pub record ShapeAnswer : Type 0 where
  pub reason : ℕ
  pub table : List ℕ

abbrev pub shape_told : ℕ → ℕ → List ℕ → ShapeAnswer
shape_told shape n table = record { reason = shape_of shape n (length table); table = table_after shape n table }

-- `tungwaff_play`
pub record PlayAnswer : Type 0 where
  pub reason : ℕ
  pub agrees : ℕ
  pub index : ℕ

abbrev pub verdict_told : Report → PlayAnswer
verdict_told verdict = record { reason = verdict_reason verdict; agrees = verdict_agrees verdict; index = verdict_index verdict }

abbrev pub play_told : Inputs → List ℕ → PlayAnswer
play_told i trace = let verdict = (play_of i trace).verdict in
    record { reason = verdict_reason verdict; agrees = verdict_agrees verdict; index = verdict_index verdict }

-- `tungwaff_play_state`, with the list that the play-back's state is saved to
pub record PlayStateAnswer : Type 0 where
  pub told : PlayAnswer
  pub list : List ℕ

-- a play-back's own verdict; else 10 for a short list
unfoldable pub kept_verdict : Played → List ℕ → Report
kept_verdict played list =
    pick (eqb (verdict_reason played.verdict) 0)
    (pick (eqb (room_reason list) 0) played.verdict (Err (room_reason list)))
    played.verdict

-- a refused call "writes to no buffer"
unfoldable pub kept_played : Played → List ℕ → List ℕ
kept_played played list = pick (eqb (verdict_reason played.verdict) 0) (saved_to played.state list) list

abbrev pub play_state_told : Inputs → List ℕ → List ℕ → PlayStateAnswer
play_state_told i trace list = record { told = verdict_told (kept_verdict (play_of i trace) list); list = kept_played (play_of i trace) list }

-- `tungwaff_read`: what is said of the text, and the buffers of parents and turns
pub record ReadAnswer : Type 0 where
  pub said : Told
  pub parents : List ℕ
  pub schedule : List ℕ

abbrev pub read_told : List ℕ → List ℕ → List ℕ → ReadAnswer
read_told text parents schedule =
    let reading = read_within text (length parents) (length schedule) in
    record { said = said_of reading; parents = parents_in reading parents; schedule = turns_in reading schedule }

-- `tungwaff_sheet`
pub record SheetAnswer : Type 0 where
  pub length : ℕ
  pub page : List ℕ

abbrev pub sheet_told : List ℕ → SheetAnswer
sheet_told text = record { length = length (sheet_of text); page = page_of text }
