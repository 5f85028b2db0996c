use Rattle.std.proofs.Common.{rules}
use Rattle.lines.specs.Setters.{zero_task}
use Rattle.snapshot.specs.Snapshot.{task_place, task_from}
use Rattle.snapshot.proofs.FromFn.{table_from}
use Rattle.snapshot.proofs.load.Numbers.tasks.Goals as goal

pub returns : goal.returns
returns c = table_from (λ q. task_from c.args.self.list.now (task_place q)) (λ x y q h. search rules) zero_task c.from_fn.ensures.items
