use Rattle.std.proofs.Common.{◌+◌, ◌∙◌, leb, refl, get_or, rules, tests}
use Rattle.std.proofs.lemmas.Iterator.{YieldsList-from_range}
use Rattle.std.proofs.lemmas.Iterator.Search.{all_from_yields_List}
use Rattle.snapshot.specs.Snapshot.{most_in, task_place}
use Rattle.snapshot.proofs.All.{all_numbers}
use Rattle.snapshot.proofs.load.task_fits.Goals as goal

pub returns : goal.returns
returns c =
    let list = c.args.list.now in
    let place = task_place c.args.q in
    all_from_yields_List (λ k. leb (get_or list (place + k) 0) (most_in k)) _ _ _ c.all.ensures.ran (YieldsList-from_range 0 15 15 refl refl) (λ x b q k. search (rules, tests))
    ∙ all_numbers list place most_in 15
