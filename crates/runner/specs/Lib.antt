-- The definition of a run: its trace (`Trace`), and all that is read off it (`Run`); and how far tallies have risen (`Rise`).
pub mod Trace
pub mod Run
pub mod Rise
pub mod TraceLaws
pub mod RunLaws
