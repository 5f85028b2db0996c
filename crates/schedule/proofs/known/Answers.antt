-- The iterator asks each turn.
use Rattle.std.proofs.Common.{rules, ◌∙◌}
use Rattle.std.specs.Prelude.{ltb}
use Rattle.std.proofs.lemmas.Iterator.{YieldsList-from_slice}
use Rattle.std.proofs.lemmas.Iterator.Search.{all_from_yields_List}
use borrow.Author.Tests.{tests}
use Rattle.schedule.proofs.Unknown.{known_listed}
use Rattle.schedule.proofs.known.Goals as goal

pub returns : goal.returns
returns c =
    all_from_yields_List (λ t. ltb t c.args.n) _ _ c.all.result c.all.ensures.ran (YieldsList-from_slice c.args.turns.now cc) (λ x b q k. search (rules, tests))
    ∙ known_listed c.args.n c.args.turns.now
