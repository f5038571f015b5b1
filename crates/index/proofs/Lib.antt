-- Laws of an index, in two groups: what a reader of this crate wants to know (what an index holds, that extending is building anew, that a look-up shows
-- what the walk shows, when a call is taken and what it leaves, how much it walks, that results are unique), and the laws behind single functions.
pub mod Built
pub mod Extended
pub mod Jumps
pub mod Calls
pub mod Order
pub mod Work
pub mod Unique
mod Examples
mod Starts
mod Offsets
mod Ends
