-- Cases worked out by hand from the papers, over the definitions that the contracts cite, and shown by computation. They stand apart from the laws, since
-- they compute for long and no law needs them. `Cases` has the marked cases of 01's table, `Starts` those of 02's P1, `Rounds` those of P2, `Tallied` those of P3,
-- `Played` those of P4, `Looped` those of P5, `Worked` those of P6,
-- `Down` those of P7.
pub mod Cases
pub mod Starts
pub mod Rounds
pub mod Tallied
pub mod Played
pub mod Looped
pub mod Worked
pub mod Down
