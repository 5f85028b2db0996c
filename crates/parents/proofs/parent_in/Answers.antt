-- The least task taken off a number is its highest power of two.
use Rattle.std.proofs.Common.{◌∙◌, ap, arith}
use Rattle.bitset.specs.Set.{without_of}
use Rattle.bitset.specs.SetLaws.{without_least}
use Rattle.parents.proofs.parent_in.Goals as goal

pub returns-in-LowPower : goal.returns-in-LowPower
returns-in-LowPower c =
    rw c.in-LowPower.is
    (c.without.ensures ∙ ap (without_of c.args.q) c.least.ensures ∙ without_least 64 c.args.q (omega arith) c.ranges.q.fits)
