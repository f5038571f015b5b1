-- Laws of one command on the wire, in three groups: what a reader of this crate wants to know (the order of the codes, that results are
-- unique, the rule on a goal's bits, what a parameter says, what a read looks at, round trips), the laws behind those, and the laws behind single
-- functions.
pub mod Order
pub mod Unique
pub mod Goals
pub mod Parameters
pub mod Local
pub mod RoundTrip
pub mod Calls
pub mod Answers
pub mod Front
pub mod Layouts
pub mod Ranges
pub mod Lengths
pub mod Sums
mod Singles
pub mod Writes
