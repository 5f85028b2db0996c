-- The definitions of the machine, in the order of document 01; then the laws that no turn has a part in. Those of turns stand in proofs/.
pub mod Setters
pub mod Tally
pub mod Answers
pub mod Fresh
pub mod Range
pub mod Least
pub mod Turn
pub mod Ready
pub mod RangeLaws
pub mod LeastLaws
pub mod FreshLaws
