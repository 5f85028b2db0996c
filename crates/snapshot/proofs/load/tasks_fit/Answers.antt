use Rattle.std.proofs.Common.{◌∙◌, refl, rules, tests}
use Rattle.std.proofs.lemmas.Iterator.{YieldsList-from_range}
use Rattle.std.proofs.lemmas.Iterator.Search.{all_from_yields_List}
use Rattle.snapshot.specs.Snapshot.{most_in, task_place, fit_from}
use Rattle.snapshot.proofs.All.{all_tasks}
use Rattle.snapshot.proofs.load.tasks_fit.Goals as goal

pub returns : goal.returns
returns c =
    let list = c.args.list.now in
    all_from_yields_List (λ q. fit_from list (task_place q) most_in 15) _ _ _ c.all.ensures.ran (YieldsList-from_range 0 64 64 refl refl) (λ x b q k. search (rules, tests))
    ∙ all_tasks list 64
