-- The entries passed are the shape's, the others as they were.
use Rattle.std.proofs.Common.{drop, ◌≡◌, ◌++◌}
use Rattle.parents.specs.Shapes.{number_of, shape_table}
use Rattle.parents.proofs.fill.Given as goal

abbrev pub invariant-loop-q : goal.invariant-loop-q
invariant-loop-q l = l.table ≡ shape_table (number_of l.shape) l.q ++ drop l.q l.fn.table
