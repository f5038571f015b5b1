-- The gas valve: 02, Q-7. Its frame, the codes of reading and writing one, the valve's three states, and what becomes of it over many frames.
pub mod Frame
pub mod Answers
pub mod State
pub mod History
