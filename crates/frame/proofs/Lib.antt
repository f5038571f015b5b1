-- Laws of the status frame, in two groups: what a reader of this crate wants to know (what the rules say, the order of the codes, that
-- results are unique, round trips), and the laws behind the functions.
pub mod Laws
pub mod Order
pub mod Unique
pub mod RoundTrip
pub mod Calls
pub mod Answers
pub mod Modes
