-- The numbers of kinds.
pub mod Numbers
