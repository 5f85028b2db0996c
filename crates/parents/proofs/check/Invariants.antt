-- Every entry passed is right.
use Rattle.std.proofs.Common.{length, ◌≡◌, true}
use Rattle.parents.specs.Parents.{entries_ok}
use Rattle.parents.proofs.check.Given as goal

abbrev pub invariant-loop-q : goal.invariant-loop-q
invariant-loop-q l = (length l.table ≡ l.n) × (entries_ok l.table l.q ≡ true)
