use Rattle.std.proofs.Common.{◌≡◌, ◌∙◌, ◌+◌, ◌*◌, arith}
use Rattle.rows.specs.Rows.{task_row, task_numbers}
use Rattle.rows.specs.RowsLaws.{length_tasks, tasks_none, tasks_more}
use Rattle.rows.proofs.Tail.{tail_more}
use Rattle.rows.proofs.write_tasks.Goals as goal

pub loop-q-init : goal.loop-q-init
loop-q-init c = rw (tasks_none c.args.ran.now)

pub loop-q-preserved : goal.loop-q-preserved
loop-q-preserved c =
    let ran = c.args.ran.now in
    let q = c.loop-q.q in
    let next : 4 * (q + 1) ≡ 4 * q + 4 = omega arith in
    rw c.from.ensures at c.write.ensures
    ∙ tail_more (task_numbers ran q) c.args.rows.now c.loop-q.rows (4 * q) c.loop-q.invariant (length_tasks ran q) (task_row ran q)
    ∙ rw (next, tasks_more ran q)
