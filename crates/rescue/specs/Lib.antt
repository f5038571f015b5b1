-- What is left of a damaged list: 02, Q-10; last, steps of the code.
pub mod Pieces
pub mod Answers
pub mod Whole
pub mod Steps
