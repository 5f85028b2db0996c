-- What a customer may rely on, in words: `Calls` has those of demand 3 and `Guarantee` what it says, `Promise` those of what holds of ready, `Accepted` those of the law on tallies, `Answers` those of the
-- claim on kinds 1 and 4, `Loops` those of the tree's loop over calls, and `Reach` of a task that comes to its own work. That all this holds is shown in proofs/.
pub mod Calls
pub mod Answers
pub mod Accepted
pub mod Loops
pub mod Guarantee
pub mod Promise
pub mod Reach
