use Rattle.std.proofs.Common.{◌∙◌, arith}
use Rattle.snapshot.specs.SnapshotLaws.{filled_none, filled_more}
use Rattle.snapshot.proofs.save.write_tasks.Goals as goal

pub loop-q-init : goal.loop-q-init
loop-q-init c = filled_none c.args.state.now c.args.list.now (omega arith)

pub loop-q-preserved : goal.loop-q-preserved
loop-q-preserved c =
    c.write.ensures ∙ rw (c.task_numbers-numbers.ensures, c.loop-q.invariant) (filled_more c.args.state.now c.args.list.now (omega arith) c.loop-q.q)
