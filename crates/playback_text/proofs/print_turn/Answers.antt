-- `print_turn` meets its contract: the task, and then what its turn has answered.
use Rattle.std.proofs.Common.{◌≡◌, ℕ, [], ◌∷◌, ◌++◌, ◌<◌, sym, ap, ◌∙◌, arith}
use Rattle.text.specs.Decimal.{decimal, spaced, refused_word}
use Rattle.text.specs.declared.print.Page.{Page}
use Rattle.text.specs.Page.{Puts}
use Rattle.text.specs.PageLaws.{puts_then}
use Rattle.machine.specs.declared.State.{State}
use Rattle.machine.specs.declared.Move.{Move}
use Rattle.machine.specs.Answers.{Outcome}
use Rattle.std.specs.Prelude.{Ok, Err}
use Rattle.machine.specs.declared.Turned.{Turned}
use Rattle.machine.specs.Setters.{task_at}
use Rattle.machine.specs.Turn.{turn_of, move_number}
use Rattle.machine.proofs.TurnLaws.{turn_makes}
use Rattle.machine.specs.RangeLaws.{range}
use Rattle.playback_text.specs.Answer.{counted_line, turn_line}
use Rattle.playback_text.proofs.print_turn.Goals as goal

module _ (s : State) (p : ℕ) where
  answer : (t : Turned) (o : Outcome) → t ≡ turn_of s p → t.outcome ≡ o → (turn_of s p).outcome ≡ o
  answer t o e a = sym (ap (λ (t : Turned). t.outcome) e) ∙ a

  -- the task of a turn that is made is one of 64
  task_in : (how : Move) → (turn_of s p).outcome ≡ Ok how → p < 64
  task_in how e = let m = turn_makes s p how e in omega (arith, m.known, (range s m.valid).few)

  -- what a turn that is made, and one that is refused, has printed
  module _ {page after : Page} {o : Outcome} where
    made : (how : Move) (line number : ℕ) → o ≡ Ok how → line ≡ (task_at s p).line → number ≡ move_number how
        → Puts (decimal p ++ spaced line ++ counted_line [] number) page after → Puts (turn_line s p o) page after
    made how line number e l n x = rw (e, ← l, ← n) x

    refused : (k number : ℕ) → o ≡ Err k → number ≡ k → Puts (decimal p ++ 32 ∷ counted_line refused_word number) page after → Puts (turn_line s p o) page after
    refused k number e n x = rw (e, ← n) x

pub line_of-requires : goal.line_of-requires
line_of-requires c =
    task_in c.args.state c.args.task c.in-Ok.how (answer c.args.state c.args.task c.turn-turned.result (Ok c.in-Ok.how) c.turn-turned.ensures c.in-Ok.is)

pub returns-in-Ok : goal.returns-in-Ok
returns-in-Ok c =
    made c.args.state c.args.task c.in-Ok.how c.line_of.result c.number-in-Ok.result
    (answer c.args.state c.args.task c.turn-turned.result (Ok c.in-Ok.how) c.turn-turned.ensures c.in-Ok.is)
    c.line_of.ensures c.number-in-Ok.ensures
    (puts_then (puts_then c.number.ensures c.spaced.ensures) c.print_counted.ensures)

pub returns-in-Err : goal.returns-in-Err
returns-in-Err c =
    refused c.args.state c.args.task c.in-Err.refusal c.number-in-Err.result
    (answer c.args.state c.args.task c.turn-turned.result (Err c.in-Err.refusal) c.turn-turned.ensures c.in-Err.is)
    c.number-in-Err.ensures
    (puts_then c.number.ensures (puts_then c.byte.ensures c.print_counted-in-Err.ensures))
