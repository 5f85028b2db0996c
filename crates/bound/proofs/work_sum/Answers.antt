-- The sum of one task more.
use Rattle.std.proofs.Common.{sym, arith}
use Rattle.bitset.specs.SumLaws.{sum_none, sum_more}
use Rattle.setup.specs.Tables.{work_of}
use Rattle.bound.proofs.work_sum.Goals as goal

pub loop-q-init : goal.loop-q-init
loop-q-init c = (sym (sum_none (work_of c.args.works.now)), omega arith)

pub loop-q-preserved : goal.loop-q-preserved
loop-q-preserved c =
    (omega (arith, sum_more c.loop-q.q (work_of c.args.works.now), c.loop-q.invariant.0, c.work_of.ensures), omega arith)
