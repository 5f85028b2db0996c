-- The definitions of the crate (`Choice`, `Table`, `Sum`, `Tasks`, `Set`), then their laws.
pub mod Choice
pub mod Table
pub mod Sum
pub mod Tasks
pub mod Set
pub mod ChoiceLaws
pub mod TableLaws
pub mod SumLaws
pub mod SetLaws
pub mod TasksLaws
