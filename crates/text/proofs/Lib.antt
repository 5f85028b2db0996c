-- The lemmas of the proofs: `Scanning`, what the loop of the reader keeps.
pub mod Scanning
