-- What shows that coupled states stay coupled.
pub mod Fresh
pub mod Lines
pub mod Turns
pub mod Runs
