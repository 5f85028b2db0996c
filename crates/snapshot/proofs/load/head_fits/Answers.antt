use Rattle.std.proofs.Common.{◌∙◌, leb, take, arith, rules, tests}
use Rattle.std.proofs.lemmas.Iterator.{YieldsList-from_slice}
use Rattle.std.proofs.lemmas.Iterator.Search.{all_from_yields_List}
use Rattle.snapshot.proofs.All.{all_bytes}
use Rattle.snapshot.proofs.load.head_fits.Goals as goal

pub returns : goal.returns
returns c =
    let list = c.args.list.now in
    all_from_yields_List (λ x. leb x 255) _ _ _ c.all.ensures.ran (YieldsList-from_slice (take 69 list) cc) (λ x b q k. search (rules, tests)) ∙ all_bytes list 69 (omega arith)
