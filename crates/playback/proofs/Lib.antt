-- What the loops of the crate carry, and the run of a part's tasks.
pub mod Gathering
pub mod Comparing
pub mod Runs
pub mod Playing
pub mod Admitting
