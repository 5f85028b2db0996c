-- The copied part is the table, and what stands after it is 0 still.
use Rattle.std.proofs.Common.{ap, ◌++◌, ℕ, List, length}
use Rattle.std.proofs.lemmas.List.{drop-replicate}
use Rattle.machine.proofs.initial.padded.Goals as goal

pub returns : goal.returns
returns c = rw (c.copy_from_slice.ensures.after) (ap (λ (rest : List ℕ). c.args.parents.now ++ rest) (drop-replicate (length c.args.parents.now) 64 0))
