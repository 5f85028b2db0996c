-- What the proofs of the crate share.
pub mod Answers
pub mod Tail
pub mod Going
