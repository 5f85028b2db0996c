-- The numbers of the tasks passed are written.
use Rattle.std.proofs.Common.{◌≡◌}
use Rattle.snapshot.specs.SnapshotLaws.{filled}
use Rattle.snapshot.proofs.save.write_tasks.Given as goal

abbrev pub invariant-loop-q : goal.invariant-loop-q
invariant-loop-q l = l.list ≡ filled l.state l.fn.list l.q
