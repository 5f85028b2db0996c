-- The laws of turns (`TurnLaws` first), and what the proofs of the code share (`Arrays`).
pub mod TurnLaws
pub mod KeepLaws
pub mod TallyLaws
pub mod CountLaws
pub mod RoundLaws
pub mod RefusalLaws
pub mod ReadyLaws
pub mod Arrays
