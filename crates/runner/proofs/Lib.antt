-- What the proofs of the crate share.
pub mod Going
pub mod Answers
