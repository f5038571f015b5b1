-- Laws of a rescue, in two groups: what a reader of this crate wants to know (what passes, that kept and skipped bytes are the whole list, which lists lose
-- nothing, how a call ends, the order of the codes, how much is read, that results are unique, worked examples), and the laws behind those and behind single
-- functions.
pub mod Passing
pub mod Together
pub mod Unharmed
pub mod Calls
pub mod Order
pub mod Bounds
pub mod Work
pub mod Unique
mod Examples
pub mod Pieces
pub mod Turns
mod Ends
