-- Play-back: what a trace holds, and what is reported of it (`Playback`); the words of the claims on it (`Agreement`) and the claims (`Claims`); what
-- the steps of the code leave (`Steps`); the laws; and the words of the claims, pinned (`Pins`).
pub mod Playback
pub mod Agreement
pub mod Steps
pub mod StepsLaws
pub mod PlaybackLaws
pub mod Claims
pub mod Pins
