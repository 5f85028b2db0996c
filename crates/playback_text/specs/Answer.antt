-- What is printed of a play-back: a line with its verdict, and, where a triple differs, a line with what the barrier does at that turn.
use Rattle.std.specs.Prelude.{List, [], ◌∷◌, ◌++◌, ℕ, ◌-◌, ◌*◌, length, get_or, replicate, Ok, Err}
use Rattle.std.proofs.Math.Option.{Option, none, some}
use Rattle.text.specs.Decimal.{decimal, spaced, refused_word}
use Rattle.machine.specs.declared.State.{State}
use Rattle.machine.specs.Answers.{Outcome}
use Rattle.machine.specs.Setters.{task_at}
use Rattle.machine.specs.Fresh.{Inputs}
use Rattle.machine.specs.Turn.{turn_of, move_number}
use Rattle.playback.specs.declared.Verdict.TheVariants as verdict
use Rattle.playback.specs.declared.Played.{Played}
use Rattle.playback.specs.Playback.{Report, refused_play, play_of}
use Rattle.playback_text.specs.declared.Printed.{Printed}
use Rattle.playback_text.specs.Setup.{setup_of}

-- a setup that is not read is refused 1
abbrev pub play_in : Option Inputs → List ℕ → Played
play_in none trace = refused_play 1
play_in (some i) trace = play_of i trace

unfoldable pub play_text : List ℕ → List ℕ → Played
play_text setup trace = play_in (setup_of setup) trace

-- "agrees" and a line feed, and "differs"
abbrev pub agrees_line : List ℕ
agrees_line = 97 ∷ 103 ∷ 114 ∷ 101 ∷ 101 ∷ 115 ∷ 10 ∷ []

abbrev pub differs_word : List ℕ
differs_word = 100 ∷ 105 ∷ 102 ∷ 102 ∷ 101 ∷ 114 ∷ 115 ∷ []

-- a word and a number
abbrev pub counted_line : List ℕ → ℕ → List ℕ
counted_line word x = word ++ spaced x ++ 10 ∷ []

-- `agrees`, `differs INDEX` or `refused K`
abbrev pub verdict_line : Report → List ℕ
verdict_line (Ok verdict.Agrees) = agrees_line
verdict_line (Ok (verdict.Differs i)) = counted_line differs_word i
verdict_line (Err k) = counted_line refused_word k

-- what a turn of the task p does: as a triple, `TASK LINE HOW`, or `TASK refused K`
abbrev pub turn_line : State → ℕ → Outcome → List ℕ
turn_line s p (Ok how) = decimal p ++ spaced (task_at s p).line ++ counted_line [] (move_number how)
turn_line s p (Err k) = decimal p ++ 32 ∷ counted_line refused_word k

-- where a triple differs, the turn of its task from the state before it
abbrev pub told_line : Report → State → List ℕ → List ℕ
told_line (Ok verdict.Agrees) s trace = []
told_line (Ok (verdict.Differs i)) s trace = turn_line s (get_or trace (3 * i) 0) (turn_of s (get_or trace (3 * i) 0)).outcome
told_line (Err k) s trace = []

unfoldable pub lines_of : Played → List ℕ → List ℕ
lines_of p trace = verdict_line p.verdict ++ told_line p.verdict p.state trace

-- both lines, with zeros after them up to 128 bytes, the length of the first, and that of both
abbrev pub printed_of : Played → List ℕ → Printed
printed_of p trace =
    record {
      bytes = lines_of p trace ++ replicate (128 - length (lines_of p trace)) 0;
      verdict = length (verdict_line p.verdict);
      len = length (lines_of p trace);
    }
