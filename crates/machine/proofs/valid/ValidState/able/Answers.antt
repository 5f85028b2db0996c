use Rattle.std.proofs.Common.{◌≡◌, refl, sym, ◌∙◌, Bool, true, false, ℕ, suc, ◌+◌, ◌-◌, ◌<◌, arith, ltb}
use Rattle.bitset.specs.Choice.{pick}
use Rattle.lines.specs.declared.Effect.{Effect}
use Rattle.lines.specs.declared.Act.{Act}
use Rattle.lines.specs.declared.Act.TheVariants.{Moves, Waits, Refuses}
use Rattle.machine.specs.declared.State.{State}
use Rattle.machine.specs.Answers.{Outcome}
use Rattle.machine.specs.declared.Move.TheVariants.{Moved}
use Rattle.std.specs.Prelude.{Ok, Err, Some}
use Rattle.machine.specs.Setters.{moves_at, waits_at}
use Rattle.machine.specs.Tally.{max_tally}
use Rattle.machine.specs.Range.{Valid}
use Rattle.machine.specs.RangeLaws.{range}
use Rattle.machine.specs.Turn.{effect_of, outcome_of, is_moved}
use Rattle.machine.proofs.TurnLaws.{turn_step, step_outcome}
use Rattle.machine.specs.Ready.{ready_from}
use Rattle.machine.proofs.valid.ValidState.able.Goals as goal

-- whether a turn would move is told with no look at the round that it would close
any-round : (a : Act) (closed m w : ℕ) → is_moved (outcome_of a closed m w) ≡ is_moved (outcome_of a 0 m w)
any-round Moves closed m w = go (ltb m max_tally)
  where
    go : (b : Bool) → is_moved (pick b (Ok (Moved closed)) (Err 13)) ≡ is_moved (pick b (Ok (Moved 0)) (Err 13))
    go true = refl
    go false = refl
any-round Waits closed m w = refl
any-round (Refuses k) closed m w = refl

-- the task q of a state in range, of those from q on
asked : (s : State) (q : ℕ) (b : Bool) → Valid s → q < s.n → is_moved (outcome_of (effect_of s q).act 0 (moves_at s q) (waits_at s q)) ≡ b
    → ready_from s (s.n - q) q ≡ pick b (Ok (Some q)) (ready_from s (s.n - (q + 1)) (q + 1))
unfolding ready_from
asked s q b v h e =
    let more : s.n - q ≡ suc (s.n - (q + 1)) = omega arith in
    rw (more, turn_step s q v h, step_outcome s q, any-round, e)

-- the same by what the loop has read and asked
here : (s : State) (q : ℕ) (e : Effect) (o : Outcome) (moved b : Bool) → Valid s → q < s.n → e ≡ effect_of s q
    → o ≡ outcome_of e.act 0 (moves_at s q) (waits_at s q) → moved ≡ is_moved o → moved ≡ b
    → ready_from s (s.n - q) q ≡ pick b (Ok (Some q)) (ready_from s (s.n - (q + 1)) (q + 1))
here s q e o moved b v h is eo em eb = asked s q b v h (rw (← eb, em, eo, is))

-- the task that is asked has its tallies
pub bounds-state-q : goal.bounds-state-q
bounds-state-q c = omega (arith, (range c.args.self.now.state c.args.self.now.valid).few)

pub bounds-state-q-in-loop-q : goal.bounds-state-q-in-loop-q
bounds-state-q-in-loop-q c = omega (arith, (range c.args.self.now.state c.args.self.now.valid).few)

pub returns-then-is_moved : goal.returns-then-is_moved
returns-then-is_moved c =
    sym
    (c.loop-q.invariant
    ∙ here c.args.self.now.state c.loop-q.q _ _ _ true c.args.self.now.valid (omega arith) c.effect-effect.ensures c.of.ensures c.is_moved.ensures c.if-is_moved.true)

pub loop-q-preserved : goal.loop-q-preserved
loop-q-preserved c =
    c.loop-q.invariant
    ∙ here c.args.self.now.state c.loop-q.q _ _ _ false c.args.self.now.valid (omega arith) c.effect-effect.ensures c.of.ensures c.is_moved.ensures c.if-is_moved.false

pub returns : goal.returns
unfolding ready_from
returns c = let none : c.args.self.now.state.n - c.loop-q.q ≡ 0 = omega arith in sym (c.loop-q.invariant ∙ rw none)
