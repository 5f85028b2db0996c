-- The definitions of the crate (`Counts`), then their laws.
pub mod Counts
pub mod CountsLaws
