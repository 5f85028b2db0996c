-- The laws of the fetch-and-increment barrier: its invariant (`Invariant`), the moves of its lines (`Lines`), what the invariant says of one task
-- (`Phases`), that it is kept (`Kept`), that some task can move (`Moves`), how far a task is in its round (`Round`), what the invariant forbids
-- (`Safe`), and all of these as one record (`Increment`).
pub mod Invariant
pub mod Round
