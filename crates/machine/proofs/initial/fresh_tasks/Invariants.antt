-- The tasks passed are fresh, the others all zero.
use Rattle.std.proofs.Common.{◌≡◌}
use Rattle.setup.specs.Tables.{start_of, work_of}
use Rattle.machine.specs.Fresh.{task_with, fresh_tasks}
use Rattle.machine.proofs.initial.fresh_tasks.Given as goal

abbrev pub invariant-loop-q : goal.invariant-loop-q
invariant-loop-q l = l.all ≡ fresh_tasks l.q (λ q. task_with (start_of l.starts q) (work_of l.works q) l.own)
