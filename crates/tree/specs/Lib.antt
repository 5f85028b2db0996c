-- The laws of the tree barrier (001, section 2.4.1): its invariant (`Invariant`), the moves of its lines (`Lines`), that they keep the invariant (`Kept`,
-- by `Steps`), who can move (`Moves`), how far a task is in its round (`Round`), how many moves a round of all tasks has (`Total`), the counts (`Safe`);
-- `Tree` puts them together. `TreeRange` says what the range has of a tree, and `Stands` where each task stands by the invariant.
-- `Loop` has the words of 02's P5 on the moves of a task at each line, and `LoopLaws` shows them.
pub mod Invariant
pub mod Round
pub mod Loop
