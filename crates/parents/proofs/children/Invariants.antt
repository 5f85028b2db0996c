-- The list holds the children among the tasks passed; a table of no entry, or the root's alone, has none to pass.
use Rattle.std.proofs.Common.{◌≡◌, ◌≤◌, length}
use Rattle.parents.specs.Parents.{children_below}
use Rattle.parents.proofs.children.Given as goal

abbrev pub invariant-loop-r : goal.invariant-loop-r
invariant-loop-r l = (1 ≤ l.r) × (length l.table ≤ 1 → l.r ≡ 1) × (l.list ≡ children_below l.table l.task l.r)
