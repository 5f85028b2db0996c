-- The definitions of a setup and of a task's range: kinds, tables, reasons, range; then their laws.
pub mod Kinds
pub mod Tables
pub mod Reasons
pub mod Range
pub mod TablesLaws
pub mod ReasonsLaws
pub mod RangeLaws
