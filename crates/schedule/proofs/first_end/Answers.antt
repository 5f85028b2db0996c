-- The end of the first pass is where all tasks have been named, if every turn that follows is a task; else there is none.
use Rattle.std.proofs.Common.{refl, sym, ◌∙◌, [], ◌+◌, ◌-◌, length, drop, length-drop, arith}
use Rattle.std.proofs.lemmas.List.{take_all}
use Rattle.schedule.proofs.Walk.{seen_none, not_all_tasks}
use Rattle.schedule.proofs.Walking.{empty, none, unknown, over, unknown_later, ended, not_yet}
use Rattle.schedule.proofs.first_end.Goals as goal

pub returns-then-not-is_count : goal.returns-then-not-is_count
returns-then-not-is_count c =
    empty c.args.n c.args.place c.args.schedule.now (none c.args.n c.args.place c.args.schedule.now c.if-not-is_count.ensures)

pub loop-i-init : goal.loop-i-init
loop-i-init c =
    record { since = []; named = seen_none c.args.n; walked = omega arith; tasks = refl; passes = refl }

pub returns-then-n-task : goal.returns-then-n-task
returns-then-n-task c =
    empty c.args.n c.args.place c.args.schedule.now
    (unknown c.loop-i.invariant c.if-not-is_count.ensures
    (not_all_tasks c.args.n c.args.schedule.now c.loop-i.i c.loop-i-test.true c.if-n-task.true))

pub returns-then-known : goal.returns-then-known
returns-then-known c =
    let rest = take_all (length c.args.schedule.now - (c.loop-i.i + 1)) (drop (c.loop-i.i + 1) c.args.schedule.now) (omega (arith, length-drop (c.loop-i.i + 1) c.args.schedule.now)) in
    ended c.loop-i.invariant c.if-not-is_count.ensures c.loop-i-test.true c.if-n-task.false
    (sym c.with-seen.ensures ∙ c.if-seen-every.true ∙ c.all-every.ensures) (rw rest at (sym c.known.ensures ∙ c.if-known.true))

pub returns-else-known : goal.returns-else-known
returns-else-known c =
    let rest = take_all (length c.args.schedule.now - (c.loop-i.i + 1)) (drop (c.loop-i.i + 1) c.args.schedule.now) (omega (arith, length-drop (c.loop-i.i + 1) c.args.schedule.now)) in
    empty c.args.n c.args.place c.args.schedule.now
    (unknown_later c.loop-i.invariant c.if-not-is_count.ensures c.loop-i-test.true c.if-n-task.false
    (rw rest at (sym c.known.ensures ∙ c.if-known.false)))

pub loop-i-preserved : goal.loop-i-preserved
loop-i-preserved c =
    rw c.with-seen.ensures
    (not_yet c.loop-i.invariant c.if-not-is_count.ensures c.loop-i-test.true c.if-n-task.false
    (λ e. c.if-seen-every.false (c.with-seen.ensures ∙ e ∙ sym c.all-every.ensures)))

pub returns : goal.returns
returns c =
    empty c.args.n c.args.place c.args.schedule.now
    (over c.loop-i.invariant c.if-not-is_count.ensures c.loop-i-test.false)
