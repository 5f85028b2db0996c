-- A state as a list of numbers (`Snapshot`), the laws of it, and that what is saved is loaded (`RoundTrip`).
pub mod Snapshot
pub mod SnapshotLaws
pub mod RoundTrip
