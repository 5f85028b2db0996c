-- What is held is the least count of the tasks passed.
use Rattle.std.proofs.Common.{get_or, ◌≡◌}
use Rattle.counts.specs.Counts.{least_among}
use Rattle.counts.proofs.least_of.Given as goal

abbrev pub invariant-loop-count : goal.invariant-loop-count
invariant-loop-count l = l.least ≡ least_among (λ p. get_or l.counts p 0) l.count-index
