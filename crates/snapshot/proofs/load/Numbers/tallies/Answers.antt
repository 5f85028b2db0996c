use Rattle.std.proofs.Common.{rules, arith}
use Rattle.snapshot.specs.Snapshot.{number_in}
use Rattle.snapshot.proofs.Fits.{task_word}
use Rattle.snapshot.proofs.FromFn.{callable_below, table_from}
use Rattle.snapshot.proofs.load.Numbers.tallies.Goals as goal

pub from_fn-requires : goal.from_fn-requires
from_fn-requires c = (omega arith, callable_below 64 (λ x q r. search rules) (λ x h. search (rules, task_word)))

pub returns : goal.returns
returns c = table_from (λ q. number_in c.args.self.list.now q c.args.k) (λ x y q h. search rules) 0 c.from_fn.ensures.items
