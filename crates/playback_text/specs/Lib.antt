-- Play-back from a setup text: what the text says (`Setup`), what is printed of the play-back (`Answer`), and what a step of the code is promised
-- (`Steps`); then the laws.
pub mod Setup
pub mod Answer
pub mod Steps
pub mod Laws
