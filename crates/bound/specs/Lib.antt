-- The bound of demand 3 (`Bound`), and its laws.
pub mod Bound
pub mod BoundLaws
