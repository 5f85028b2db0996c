-- The laws of a session.
pub mod SessionLaws
