-- The entry written is the one that follows those written before.
use Rattle.std.proofs.Common.{refl, ap, ◌∙◌, List, ℕ, ◌++◌, drop, arith}
use Rattle.std.proofs.Math.ListN.{set}
use Rattle.parents.specs.Shapes.{number_of, shape_table}
use Rattle.parents.specs.ShapesLaws.{one_more}
use Rattle.parents.proofs.fill.Goals as goal

pub loop-q-init : goal.loop-q-init
unfolding shape_table
loop-q-init c = refl

pub loop-q-preserved : goal.loop-q-preserved
loop-q-preserved c =
    ap (λ (l : List ℕ). set l c.loop-q.q c.parent_in.result) c.loop-q.invariant
    ∙ ap (set (shape_table (number_of c.args.shape) c.loop-q.q ++ drop c.loop-q.q c.args.table.now) c.loop-q.q) c.parent_in.ensures
    ∙ one_more (number_of c.args.shape) c.loop-q.q c.args.table.now (omega arith)
