use Rattle.std.proofs.Common.{rules}
use Rattle.snapshot.proofs.FromFn.{table_mapped}
use Rattle.snapshot.proofs.save.parent_numbers.Goals as goal

pub returns : goal.returns
returns c = table_mapped (λ x. x) (λ p q x y h. search rules) c.map.ensures.items
