-- The numbers of reasons, what a check answers by them, and a refusal with a place.
pub mod Named
pub mod Numbers
pub mod Checked
pub mod Placed
