-- The housekeeping frame: 02, Q-11; last, steps of the code.
pub mod Frame
pub mod Answers
pub mod Steps
