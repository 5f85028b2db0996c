-- The laws of the symmetric barrier: its invariant (`Invariant`), the moves of its lines (`Lines`), that they keep the invariant (`Kept`), who can
-- move (`Moves`), how far a task is in its round (`Round`), the counts (`Safe`); `Symmetric` puts them together. `Tags`, over `Modulo`, says what
-- the tags tell of the counts.
pub mod Invariant
pub mod Modulo
pub mod Round
