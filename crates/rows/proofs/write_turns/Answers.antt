use Rattle.std.proofs.Common.{sym, length-take-le, arith}
use Rattle.machine.specs.RangeLaws.{range}
use Rattle.machine.proofs.RoundLaws.{lent_there}
use Rattle.rows.proofs.Going as at
use Rattle.rows.proofs.write_turns.Goals as goal

pub slice_bounds-counts-end : goal.slice_bounds-counts-end
slice_bounds-counts-end c =
    let s = c.args.begin.state in
    lent_there s s.n (range s c.args.begin.valid).few c.all_counts-counts.result c.all_counts-counts.ensures

pub slice_bounds-least_of-end : goal.slice_bounds-least_of-end
slice_bounds-least_of-end c =
    let s = c.args.begin.state in
    sym (length-take-le s.n c.all_counts-counts.result (lent_there s s.n (range s c.args.begin.valid).few c.all_counts-counts.result c.all_counts-counts.ensures))

pub loop-i-init : goal.loop-i-init
loop-i-init c =
    let a = c.args in
    let r = c.requires in
    at.going_none a.begin.state a.tasks.now a.log.now a.rows.now _ _ a.begin.valid r.tasks_value r.log_value c.all_counts-counts.ensures c.least_of-least.ensures

pub bounds-log-i : goal.bounds-log-i
bounds-log-i c = omega (arith, at.log_there c.loop-i.invariant c.loop-i-test.true)

pub bounds-log-i-in-loop-i : goal.bounds-log-i-in-loop-i
bounds-log-i-in-loop-i c = at.log_there c.loop-i.invariant c.loop-i-test.true

pub bounds-counts-task : goal.bounds-counts-task
bounds-counts-task c = at.task_there c.loop-i.invariant c.loop-i-test.true

pub overflow_add-next : goal.overflow_add-next
overflow_add-next c = omega (arith, at.next_room c.loop-i.invariant c.loop-i-test.true c.rise.result c.rise.ensures)

pub bounds-counts-task-in-loop-i : goal.bounds-counts-task-in-loop-i
bounds-counts-task-in-loop-i c = at.task_there c.loop-i.invariant c.loop-i-test.true

pub slice_bounds-counts-end-in-loop-i : goal.slice_bounds-counts-end-in-loop-i
slice_bounds-counts-end-in-loop-i c = at.counts_there' c.loop-i.invariant c.loop-i-test.true c.rise.result c.rise.ensures

pub slice_bounds-after-end : goal.slice_bounds-after-end
slice_bounds-after-end c =
    sym (length-take-le _ _ (at.counts_there' c.loop-i.invariant c.loop-i-test.true c.rise.result c.rise.ensures))

pub overflow_sub-closed : goal.overflow_sub-closed
overflow_sub-closed c =
    at.low_up c.loop-i.invariant c.loop-i-test.true c.rise.result c.rise.ensures c.after-after.result c.after-after.ensures

pub loop-i-preserved : goal.loop-i-preserved
loop-i-preserved c =
    at.goes_on_lem c.loop-i.invariant c.loop-i-test.true c.rise.result c.rise.ensures c.after-after.result c.after-after.ensures _
    (rw (c.from.ensures, c.from-in-loop-i.ensures, c.from-in-loop-i-2.ensures) at c.write.ensures)

pub returns : goal.returns
returns c = at.finished c.loop-i.invariant (omega arith)
