-- The definitions of the crate, in the order of document 01, and then their laws.
pub mod Stretch
pub mod Passes
pub mod FirstPass
pub mod Times
pub mod StretchLaws
pub mod PassesLaws
pub mod FirstPassLaws
pub mod TimesLaws
