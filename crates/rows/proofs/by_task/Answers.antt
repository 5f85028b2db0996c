use Rattle.std.proofs.Common.{sym, leb-true}
use Rattle.machine.specs.RangeLaws.{range}
use Rattle.rows.specs.RowsLaws.{told_valid, tasks_written}
use Rattle.rows.proofs.Answers.{listed_refused, listed_made, listed_written}
use Rattle.rows.proofs.by_task.Goals as goal

pub returns-then-refused-clause-rows_after : goal.returns-then-refused-clause-rows_after
returns-then-refused-clause-rows_after c =
    let a = c.args in
    listed_refused a.state a.schedule.now a.allowance a.log.now _ _ c.listed-ran.ensures.value (sym c.if-refused.ensures) _ a.rows.now

pub write_tasks-requires : goal.write_tasks-requires
write_tasks-requires c =
    let a = c.args in
    let made = listed_made a.state a.schedule.now a.allowance a.log.now _ _ c.listed-ran.ensures.value (sym c.if-refused.ensures) in
    ((range a.state (told_valid a.state a.schedule.now a.allowance a.log.now _ made.1 (sym c.if-refused.ensures))).few, leb-true _ _ made.0)

pub returns-clause-rows_after : goal.returns-clause-rows_after
returns-clause-rows_after c =
    let a = c.args in
    let r = c.listed-ran.ensures.value in
    let told = sym c.if-refused.ensures in
    let made = listed_made a.state a.schedule.now a.allowance a.log.now _ _ r told in
    listed_written a.state a.schedule.now a.allowance a.log.now _ _ r told _ a.rows.now _
    (tasks_written c.listed-ran.result _ made.1 a.state.n a.rows.now _ c.write_tasks.ensures)
