-- A turn is counted by what it does to what is left.
use Rattle.std.proofs.Common.{sym, ◌∙◌, [], arith}
use Rattle.schedule.proofs.Walk.{seen_none}
use Rattle.schedule.proofs.Counting.{refused, counted, ended, not_yet}
use Rattle.schedule.proofs.count.Goals as goal
use Rattle.schedule.proofs.count.Goals.{then-seen-every, else-seen-every}

pub loop-i-init : goal.loop-i-init
loop-i-init c =
    record { since = []; named = seen_none c.args.n; within = omega arith; few = omega arith; unknown = omega arith; passes = omega arith }

pub returns-then-n-task : goal.returns-then-n-task
returns-then-n-task c = rw c.of_turn.ensures (refused c.loop-i.invariant c.loop-i-test.true c.if-n-task.true)

pub loop-i-preserved : goal.loop-i-preserved
loop-i-preserved c =
    elim c.if-seen-every.branch [
      | then-seen-every w ↦
          rw (w.seen-is, w.count-is)
          (ended c.loop-i.invariant c.requires c.loop-i-test.true c.if-n-task.false
          (sym c.with-seen.ensures ∙ w.if-seen-every.true ∙ c.all-every.ensures))
      | else-seen-every w ↦
          rw (w.seen-is, w.count-is, c.with-seen.ensures)
          (not_yet c.loop-i.invariant c.requires c.loop-i-test.true c.if-n-task.false
          (λ e. w.if-seen-every.false (c.with-seen.ensures ∙ e ∙ sym c.all-every.ensures)))
    ]

pub returns : goal.returns
returns c = counted c.loop-i.invariant c.loop-i-test.false
