-- `known_tasks`: at a triple that names no task, and at the trace's end.
use Rattle.std.proofs.Common.{rules, ◌∙◌}
use Rattle.playback.proofs.Gathering.{more, unknown, over}
use Rattle.playback.proofs.known_tasks.Goals as goal

pub returns-then-n-task : goal.returns-then-n-task
returns-then-n-task c =
    let size = c.loop-i.invariant.2 in
    let steps = c.in-Some.ensures.steps in
    let all = unknown c.loop-i.invariant.3 c.requires c.in-Some.triple.now _ steps.0.1.0 (steps.0.1.1 ∙ size) c.if-n-task.true in
    record { value = rw steps.1 all.0; tasks_after = rw steps.1 all.1 }

pub loop-i-preserved : goal.loop-i-preserved
loop-i-preserved c =
    let size = c.loop-i.invariant.2 in
    let steps = c.in-Some.ensures.steps in
    let next = more c.loop-i.invariant.3 c.requires c.in-Some.triple.now _ steps.0.1.0 (steps.0.1.1 ∙ size) c.if-n-task.false in
    (search rules, tt, steps.0.0 ∙ size, rw (steps.1, steps.2) next)

pub returns : goal.returns
returns c =
    let all = over c.loop-i.invariant.3 c.requires (rw c.loop-i.invariant.2 at c.in-None.ensures.steps.0.1.0) in
    record { value = all.0; tasks_after = all.1 }
