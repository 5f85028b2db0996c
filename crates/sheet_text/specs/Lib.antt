-- The sheet: what is printed of what a text says (`Print`), and of a run (`Steps`); then the laws.
pub mod Print
pub mod Steps
pub mod PrintLaws
pub mod StepsLaws
pub mod SheetLaws
