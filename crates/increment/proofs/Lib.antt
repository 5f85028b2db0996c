-- The laws of the crate.
pub mod RoundLaws
pub mod Lines
pub mod Phases
pub mod Kept
pub mod Moves
pub mod Safe
pub mod Increment
pub mod Keeping
