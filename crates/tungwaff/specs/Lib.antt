-- What the exported functions answer (`Entry`), and the laws of it.
pub mod Entry
pub mod EntryLaws
