-- The laws of the ring barrier (001, section 2.3): its invariant; its moves, line by line; that every move keeps the invariant; who can move;
-- how far a task is in its round; and what the invariant says of the counts. All together they are the record `Ring`.
pub mod Invariant
pub mod Round
