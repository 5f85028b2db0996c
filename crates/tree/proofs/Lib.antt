-- The laws of the crate.
pub mod RoundLaws
pub mod TreeRange
pub mod Lines
pub mod Stands
pub mod Steps
pub mod Kept
pub mod Moves
pub mod Total
pub mod Safe
pub mod Tree
pub mod LoopLaws
