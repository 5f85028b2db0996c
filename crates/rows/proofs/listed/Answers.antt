use Rattle.rows.specs.Rows.{listed_of, listed_log}
use Rattle.rows.proofs.listed.Goals as goal

pub returns-then-room : goal.returns-then-room
unfolding listed_of listed_log
returns-then-room c = rw c.if-room.true c.run.ensures

pub returns-clause-log_after : goal.returns-clause-log_after
unfolding listed_log
returns-clause-log_after c = rw c.if-room.false c.short.ensures.log_unchanged
