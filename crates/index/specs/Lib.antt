-- An index beside a list: 02, Q-14; last, steps of the code.
pub mod Index
pub mod Answers
pub mod Found
pub mod Steps
