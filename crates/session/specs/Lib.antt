-- A session from a program in C: lists that keep a state, the exported calls that change it and what they answer (`Session`); that demand 3 speaks of it (`SessionLaws`).
pub mod Session
pub mod Bytes
