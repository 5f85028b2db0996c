use Rattle.std.proofs.Common.{◌+◌, get_or, rules, arith}
use Rattle.snapshot.proofs.Fits.{head_byte}
use Rattle.snapshot.proofs.FromFn.{callable_below, table_from}
use Rattle.snapshot.proofs.load.Numbers.parents.Goals as goal

pub from_fn-requires : goal.from_fn-requires
from_fn-requires c = (omega arith, callable_below 64 (λ x q r. search rules) (λ x h. search (rules, head_byte)))

pub returns : goal.returns
returns c = table_from (λ q. get_or c.args.self.list.now (5 + q) 0) (λ x y q h. search rules) 0 c.from_fn.ensures.items
