-- A text that the sheet accepts: none of its turns is refused.
use Rattle.std.specs.Prelude.{◌≡◌, List, ℕ}
use Rattle.std.proofs.Common.{subst, arith}
use Rattle.schedule.specs.PassesLaws.{all_known}
use Rattle.machine.specs.Fresh.{fresh_state}
use Rattle.machine.specs.FreshLaws.{fresh_accepted}
use Rattle.runner.specs.Trace.{nothing}
use Rattle.reader.specs.Read.{Five, five, read_of}
use Rattle.reader.specs.ReadLaws.{Accepted, accepted}
use Rattle.sheet_text.specs.Print.{trace_in}
use Rattle.guarantee.specs.Calls.{Reached, fresh}
use Rattle.guarantee.proofs.Done.{fresh_low, turns_done}

-- the run of an accepted text ends all done: a text of 65,536 bytes has fewer turns than a count or a tally can reach
pub all_done : (text : List ℕ) (f : Five) → read_of text ≡ five f → (trace_in f).stop ≡ nothing
all_done text f e =
    rw (fresh_accepted f.inputs a.reason)
    (turns_done (fresh_state f.inputs) f.schedule 0 (subst Reached (fresh_accepted f.inputs a.reason) (fresh f.inputs a.reason))
    (fresh_low f.inputs)
    (omega (arith, a.few)) ((all_known f.inputs.n f.schedule).0 a.tasks))
  where
    a : Accepted f
    a = accepted text f e
