-- The laws that each barrier has (`Barrier`, over a `View` of the state), and what they share: the turns that move (`Moves`), a
-- task stored (`Puts`), the moves of a line (`Lines`), how far a state is (`Place`), and how often a task moves at a line (`Times`), at 11 above all (`Work`).
pub mod View
pub mod Barrier
pub mod Moves
pub mod Puts
pub mod Lines
pub mod Place
pub mod Times
pub mod TimesLaws
pub mod Work
