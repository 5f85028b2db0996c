-- Play-back of a trace (02, P4): what its triples are, what is reported of them, and the refusals.
use Rattle.std.specs.Prelude.{Bool, false, ◌&&◌, List, [], ◌∷◌, ℕ, suc, ◌%◌, eqb, leb, length, Result, Ok, Err}
use Rattle.bitset.specs.Choice.{pick}
use Rattle.setup.specs.Reasons.{first_reason}
use Rattle.machine.specs.declared.State.{State}
use Rattle.machine.specs.Answers.{Outcome}
use Rattle.machine.specs.Setters.{task_at}
use Rattle.machine.specs.Fresh.{Inputs, fresh_reason, fresh_state, zero_state}
use Rattle.machine.specs.Turn.{turn_of, move_number}
use Rattle.schedule.specs.Passes.{max_turns}
use Rattle.playback.specs.declared.Verdict.{Verdict}
use Rattle.playback.specs.declared.Verdict.TheVariants as verdict
use Rattle.playback.specs.declared.Played.{Played}

-- "The watch can write three bytes a turn: task, line before, 1 moved or 0 waited."
pub record Triple : Type 0 where
  pub task : ℕ
  pub line : ℕ
  pub how : ℕ

-- the triples of a trace's bytes; a rest of one or two bytes is none, and a trace that has one is refused 14
unfoldable pub triples_of : List ℕ → List Triple
triples_of [] = []
triples_of (task ∷ []) = []
triples_of (task ∷ line ∷ []) = []
triples_of (task ∷ line ∷ how ∷ rest) = record { task = task; line = line; how = how } ∷ triples_of rest

-- whether a triple equals what the turn of its task does, by the turn's answer. "A triple with an unknown task, an outcome above 1 or a turn that
-- would be refused differs": a turn of an unknown task is refused, and no turn is told by a number above 1.
abbrev pub equals : State → Triple → Outcome → Bool
equals s t (Ok how) = eqb t.line (task_at s t.task).line && eqb t.how (move_number how)
equals s t (Err k) = false

abbrev pub does : State → Triple → Bool
does s t = equals s t (turn_of s t.task).outcome

-- what is told of a trace: a verdict, or the number of the reason that refuses the play-back
abbrev pub Report : Type 0
Report = Result Verdict ℕ

-- "It reports agreement with the end state, or the index, from 0, of the first triple that differs, with the state before it." The triples from
-- the index i on, played from the state s:
unfoldable pub play_from : State → ℕ → List Triple → Played
play_from s i [] = record { state = s; verdict = Ok verdict.Agrees }
play_from s i (t ∷ ts) =
    let rest = play_from (turn_of s t.task).state (suc i) ts in
    pick (does s t) rest (record { state = s; verdict = Ok (verdict.Differs i) })

-- 8, "applied to bytes here", and then 14, "a length that is no multiple of three"
abbrev pub trace_reason : List ℕ → ℕ
trace_reason trace = pick (leb (length trace) max_turns) (pick (eqb (length trace % 3) 0) 0 14) 8

-- "The fresh state's checks come first": the first reason that applies, 0 if none does
unfoldable pub play_reason : Inputs → List ℕ → ℕ
play_reason i trace = first_reason (fresh_reason i) (trace_reason trace)

-- "A refused play-back returns a state whose fields are all 0."
abbrev pub refused_play : ℕ → Played
refused_play reason = record { state = zero_state; verdict = Err reason }

-- "From a fresh state the library plays such a trace."
unfoldable pub play_of : Inputs → List ℕ → Played
play_of i trace =
    pick (eqb (play_reason i trace) 0) (play_from (fresh_state i) 0 (triples_of trace)) (refused_play (play_reason i trace))

-- the paper's numbers of a report: the reason, 0 where nothing was refused; 1 where the trace agrees, else 0; the index of the first triple that
-- differs, 0 where none is told
abbrev pub verdict_reason : Report → ℕ
verdict_reason (Ok verdict.Agrees) = 0
verdict_reason (Ok (verdict.Differs i)) = 0
verdict_reason (Err k) = k

abbrev pub verdict_agrees : Report → ℕ
verdict_agrees (Ok verdict.Agrees) = 1
verdict_agrees (Ok (verdict.Differs i)) = 0
verdict_agrees (Err k) = 0

abbrev pub verdict_index : Report → ℕ
verdict_index (Ok verdict.Agrees) = 0
verdict_index (Ok (verdict.Differs i)) = i
verdict_index (Err k) = 0
