-- Laws of the gas valve, in two groups: what a reader of this crate wants to know (that a fired valve was armed earlier, that the status word says the state,
-- the order of the codes, that results are unique, round trips), and the laws behind the functions.
pub mod Safety
pub mod Status
pub mod Order
pub mod Unique
pub mod RoundTrip
pub mod Calls
mod Examples
pub mod Accepted
pub mod Answers
pub mod States
mod Fronts
