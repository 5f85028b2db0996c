-- The laws of the barrier that counts down, kind 4, which are all carried over from kind 1: how states of the two are coupled (`Coupling`), that fresh
-- ones are (`Fresh`), that their lines do alike (`Lines`), and that turns and runs answer alike and keep the coupling (`Turns`, `Runs`).
pub mod Coupling
