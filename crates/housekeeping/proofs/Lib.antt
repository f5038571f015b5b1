-- Laws of the housekeeping frame, in two groups: what a reader of this crate wants to know (the order of the codes, that results are unique, round
-- trips), and the laws behind the functions.
pub mod Order
pub mod Unique
pub mod RoundTrip
pub mod Calls
pub mod Answers
