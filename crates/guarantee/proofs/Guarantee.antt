-- Demand 3: one theorem for every list of turns and runs from any reached state. What it says of them stands in specs/Guarantee.antt, and the words of that in
-- specs/Calls.antt; what the theorem is shown by stands in `GuaranteeLaws`.
use Rattle.std.specs.Prelude.{List}
use Rattle.machine.specs.declared.State.{State}
use Rattle.guarantee.specs.Calls.{Call, Reached}
use Rattle.guarantee.proofs.Reach.{known_first, Stands, own, carried, stands}
use Rattle.guarantee.specs.Guarantee.{Guaranteed}
use Rattle.guarantee.proofs.GuaranteeLaws.{of_known, carry}

-- "no two counts differ by more than one; a task at its own work is never ahead; and 2 × M stretches that each name every task raise the
-- least count", where that is below its limit of 1,000,000 and the stretches laid end to end are all the counted turns
pub guarantee : (s : State) → Reached s → (cs : List Call) → Guaranteed s cs
guarantee s reached cs = go (stands s reached)
  where
    go : Stands s → Guaranteed s cs
    go (own k) = of_known s cs k
    go (carried s₁ pair) = carry s₁ s cs pair (of_known s₁ cs (known_first pair))
