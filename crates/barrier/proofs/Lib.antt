-- The law on the words of `Work`.
pub mod WorkLaws
