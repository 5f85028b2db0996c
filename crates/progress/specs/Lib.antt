-- The counting argument: what it asks of a machine (`Counting`), and what follows (`Progress`).
pub mod Counting
pub mod Progress
