-- The iterator finds the first turn that is no task.
use Rattle.std.proofs.Common.{◌≡◌, ◌∙◌, rules}
use Rattle.std.specs.Prelude.{position, leb}
use Rattle.std.proofs.lemmas.Iterator.{YieldsList-from_slice}
use Rattle.std.proofs.lemmas.Iterator.Search.{position_from_yields_List}
use borrow.Author.Tests.{tests}
use Rattle.schedule.proofs.Unknown.{unknown_position}
use Rattle.schedule.proofs.unknown_at.Goals as goal

pub returns : goal.returns
returns c =
    let found : c.position.result ≡ position (λ t. leb c.args.n t) c.args.schedule.now
    = position_from_yields_List (λ t. leb c.args.n t) _ _ c.position.result c.position.ensures.ran (YieldsList-from_slice c.args.schedule.now cc) (λ x b q k. search (rules, tests)) in
    c.unwrap_or.ensures ∙ rw found (unknown_position c.args.n c.args.schedule.now)
