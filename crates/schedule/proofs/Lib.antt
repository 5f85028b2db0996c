-- What the proofs of several functions share.
pub mod Walk
pub mod Unknown
pub mod Counting
pub mod Writing
pub mod Walking
pub mod Answering
