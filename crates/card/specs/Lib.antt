-- Lists on a memory card: 02, Q-4; last, steps of the code.
pub mod Reading
pub mod Number
pub mod Command
pub mod List
pub mod Answers
pub mod Steps
