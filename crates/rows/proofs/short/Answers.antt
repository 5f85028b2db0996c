use Rattle.std.proofs.Common.{sym, ◌∙◌}
use Rattle.runner.specs.RunLaws.{idle_log}
use Rattle.rows.proofs.Answers.{idle_refused, idle_accepted}
use Rattle.rows.proofs.short.Goals as goal

pub returns-then-refused-clause-by_index : goal.returns-then-refused-clause-by_index
returns-then-refused-clause-by_index c =
    let a = c.args in
    idle_refused a.state a.schedule.now a.log.now _ c.run-idle.ensures.value (sym c.if-refused.ensures)

pub returns-then-refused-clause-log_unchanged : goal.returns-then-refused-clause-log_unchanged
returns-then-refused-clause-log_unchanged c = c.run-idle.ensures.log_after ∙ idle_log c.args.state c.args.schedule.now c.args.log.now

pub returns-clause-by_index : goal.returns-clause-by_index
returns-clause-by_index c allowance =
    let a = c.args in
    rw (c.refused-2.ensures, c.into.ensures) (idle_accepted a.state a.schedule.now a.log.now _ c.run-idle.ensures.value (sym c.if-refused.ensures) allowance)

pub returns-clause-log_unchanged : goal.returns-clause-log_unchanged
returns-clause-log_unchanged c = c.run-idle.ensures.log_after ∙ idle_log c.args.state c.args.schedule.now c.args.log.now
