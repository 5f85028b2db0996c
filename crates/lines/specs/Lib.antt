-- The definitions of the lines, in the order of document 01; then their laws.
pub mod Setters
pub mod Common
pub mod Symmetric
pub mod Increment
pub mod Ring
pub mod Tree
pub mod Centralized
pub mod Words
pub mod Rule
pub mod LineLaws
pub mod CountingLaws
