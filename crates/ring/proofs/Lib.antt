-- The laws of the crate.
pub mod RoundLaws
pub mod Lines
pub mod Places
pub mod Sent
pub mod Kept
pub mod Moves
pub mod Safe
pub mod Ring
pub mod Keeping
