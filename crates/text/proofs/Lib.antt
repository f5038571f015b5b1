-- Laws of typed text, in three groups: what a reader of this crate wants to know (the readings by example, the order of codes and findings, what is
-- said of an argument out of range, what the calls answer together, which lists the lister takes, that a goal said in text is that number, that an
-- assembled list passes 1 to 10, what two texts joined say, that results are unique), the laws behind those, and the laws behind single functions.
mod Examples
pub mod LineOrder
pub mod Parameters
pub mod FirstFinding
pub mod Calls
pub mod Takes
pub mod Goals
pub mod Assembled
pub mod Joined
pub mod Unique
pub mod Found
pub mod Splitting
pub mod ByWords
mod Branches
pub mod Allowed
pub mod Saying
pub mod Printed
mod Texts
mod Marks
mod Digits
mod Naming
mod Decimal
mod Lines
pub mod Gathers
mod Putting
mod Listing
mod ShownLine
