-- `Guarantee` is the theorem, `Promise` what holds of ready and `Limit` what `limit` tells; `Tallies` is the law on tallies, `CountsDown` the claim on kinds 1 and 4, `LoopsLaws` that on the tree's loop over calls;
-- `Reach`, `Works` and `Done` say what else holds of reached states, and `Sheet` of the sheet's; `Pins` what the words mean, a second time; the others show them.
pub mod Turns
pub mod CountsDown
pub mod Instance
pub mod Reach
pub mod GuaranteeLaws
pub mod Guarantee
pub mod Promise
pub mod Limit
pub mod Tallies
pub mod LoopsLaws
pub mod Done
pub mod Sheet
pub mod Pins
pub mod Works
