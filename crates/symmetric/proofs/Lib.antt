-- The laws of the crate.
pub mod RoundLaws
pub mod Lines
pub mod Tags
pub mod Kept
pub mod Moves
pub mod Safe
pub mod Symmetric
pub mod Keeping
