-- Refused and made: the step stores all that the effect has and both tallies, and a move tells whether it closes a round.
use Rattle.std.proofs.Common.{◌≡◌, sym, ap, ◌∙◌, ℕ, ◌<◌, arith}
use Rattle.counts.specs.Counts.{least_among, closes_of}
use Rattle.lines.specs.declared.Effect.{Effect}
use Rattle.lines.specs.Words.{place_of}
use Rattle.machine.specs.Answers.{Outcome}
use Rattle.std.specs.Prelude.{Ok}
use Rattle.machine.specs.declared.State.{State}
use Rattle.machine.specs.Setters.{moves_at, waits_at}
use Rattle.machine.specs.Least.{count_of}
use Rattle.machine.specs.Range.{Valid}
use Rattle.machine.specs.Turn.{effect_of, outcome_of, answer_of}
use Rattle.machine.proofs.TurnLaws.{stored, stored_is, step_made, step_refused}
use Rattle.machine.specs.RangeLaws.{range}
use Rattle.machine.proofs.KeepLaws.{place_known}
use Rattle.machine.proofs.RoundLaws.{closed_is}
use Rattle.machine.proofs.valid.ValidState.step.Goals as goal

-- the outcome is that of the effect
answer_is : (s : State) (p closed : ℕ) (e : Effect) (o : Outcome) → Valid s → p < s.n → e ≡ effect_of s p
    → closed ≡ closes_of (least_among (count_of s) s.n) (count_of s p) e.task.count
    → o ≡ outcome_of e.act closed (moves_at s p) (waits_at s p)
    → answer_of s p (effect_of s p) ≡ o
answer_is s p closed e o v h is ec eo = rw (eo, ec, is, closed_is s p v h)

-- the task that is written to is there
place_there : (s : State) (p place : ℕ) (e : Effect) → Valid s → p < s.n → e ≡ effect_of s p → place ≡ place_of e.write p → place < 64
place_there s p place e v h is at = rw (at, is) (omega (arith, (range s v).few, place_known s p v h))

pub bounds-state-task : goal.bounds-state-task
bounds-state-task c = omega (arith, (range c.args.self.state c.args.self.valid).few)

pub bounds-state-task-2 : goal.bounds-state-task-2
bounds-state-task-2 c = omega (arith, (range c.args.self.state c.args.self.valid).few)

pub bounds-state-task-3 : goal.bounds-state-task-3
bounds-state-task-3 c = omega (arith, (range c.args.self.state c.args.self.valid).few)

pub bounds-state-task-4 : goal.bounds-state-task-4
bounds-state-task-4 c = omega (arith, (range c.args.self.state c.args.self.valid).few)

pub bounds-state-task-5 : goal.bounds-state-task-5
bounds-state-task-5 c = omega (arith, (range c.args.self.state c.args.self.valid).few)

pub offset_bounds-state-place : goal.offset_bounds-state-place
offset_bounds-state-place c =
    omega (arith, place_there c.args.self.state c.args.task _ _ c.args.self.valid c.requires c.effect-effect.ensures c.place-place.ensures)

pub bounds-state-place : goal.bounds-state-place
bounds-state-place c = place_there c.args.self.state c.args.task _ _ c.args.self.valid c.requires c.effect-effect.ensures c.place-place.ensures

pub offset_bounds-state-place-2 : goal.offset_bounds-state-place-2
offset_bounds-state-place-2 c =
    omega (arith, place_there c.args.self.state c.args.task _ _ c.args.self.valid c.requires c.effect-effect.ensures c.place-place.ensures)

pub bounds-state-place-2 : goal.bounds-state-place-2
bounds-state-place-2 c = place_there c.args.self.state c.args.task _ _ c.args.self.valid c.requires c.effect-effect.ensures c.place-place.ensures

pub returns-in_default : goal.returns-in_default
returns-in_default c =
    let s = c.args.self.state in
    let p = c.args.task in
    let answer = answer_is s p _ _ _ c.args.self.valid c.requires c.effect-effect.ensures c.closes-closed.ensures c.of-outcome.ensures in
    rw c.in_default.is (sym (step_refused s p _ (answer ∙ c.in_default.is)))

pub returns : goal.returns
returns c =
    let s = c.args.self.state in
    let p = c.args.task in
    let how = c.in-Ok.how in
    let does = c.effect-effect in
    let answer = answer_is s p _ _ _ c.args.self.valid c.requires does.ensures c.closes-closed.ensures c.of-outcome.ensures in
    let state = stored_is s p does.result how _ _ _ _ _ c.number-moved.ensures c.arrivals.ensures c.sense.ensures c.place-place.ensures c.task.ensures
    ∙ ap (λ (x : Effect). stored s p x how) does.ensures in
    ap (λ (x : State). record { state = x; outcome = Ok how }) state
    ∙ sym (step_made s p how (answer ∙ c.in-Ok.is))
