-- Texts: the numbers that one holds (`Numbers`; `Scan`, a step of reading them), a number in decimal (`Decimal`), and what printing leaves on a page (`Page`); then the laws.
pub mod Numbers
pub mod Scan
pub mod Decimal
pub mod Page
pub mod NumbersLaws
pub mod CopyLaws
pub mod DecimalLaws
pub mod PageLaws
