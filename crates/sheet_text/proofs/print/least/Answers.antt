-- `least` meets its contract: the counts lent are those of the tasks below n.
use Rattle.std.proofs.Common.{ap, ◌∙◌}
use Rattle.counts.specs.declared.Least.{Least}
use Rattle.machine.proofs.RoundLaws.{lent_least}
use Rattle.sheet_text.proofs.print.least.Goals as goal

pub returns : goal.returns
returns c =
    ap (λ (l : Least). l.count)
    (c.least_of-least.ensures ∙ lent_least c.args.state c.args.n c.requires.1 c.counts-all.result c.counts-all.ensures c.requires.0)
