-- What demand 3 says of a state and a list of calls. That it holds from every reached state is the theorem, in proofs/Guarantee.antt.
--
-- Its words are definitions, each with the paper's sentence beside it:
--   Reached, Call, after_all, counted_all, Close, Behind   `Calls` beside this file, over `fresh_of`, `turn_of` and `run_of`, which the contracts of fresh, turn and run cite
--   counted_in     the counted turns of a run              runner, `Trace`
--   CutInto       stretches that each name every task     schedule, `Stretch`
--   least         the least count                         machine, `Least`
--   promised      2 × M, in `promised_in`                  bound, `Bound`
-- What they mean is said a second time in proofs/Pins.antt.
use Rattle.std.specs.Prelude.{List, ◌<◌}
use Rattle.schedule.specs.Stretch.{CutInto}
use Rattle.machine.specs.declared.State.{State}
use Rattle.machine.specs.Least.{least}
use Rattle.guarantee.specs.Calls.{Call, after_all, counted_all, Close, Behind, promised_in}

-- "no two counts differ by more than one; a task at its own work is never ahead; and 2 × M stretches that each name every task raise the
-- least count", where that is below its limit of 1,000,000 and the stretches laid end to end are all the counted turns
abbrev pub Guaranteed : State → List Call → Type 0
Guaranteed s cs =
    Close (after_all s cs)
    × Behind (after_all s cs)
    × (least s < 1000000 → CutInto s.n (promised_in s) (counted_all s cs) → least s < least (after_all s cs))
