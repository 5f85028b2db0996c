-- The definitions of the crate (`Rows`), what a log tells of the counts (`Counting`), and laws.
pub mod Rows
pub mod Counting
pub mod RowsLaws
