-- Laws of lists on a memory card, in three groups: what a reader of this crate wants to know (the ways there and back, what passes, the order of the codes,
-- how long a stored list is and how much of one is looked at, that results are unique, worked examples), the laws behind those, and the laws behind single
-- functions.
pub mod RoundTrips
pub mod Passes
pub mod Order
pub mod Bounds
pub mod Work
pub mod Unique
mod Examples
pub mod Groups
pub mod Commands
pub mod Lists
pub mod Coded
pub mod Readings
pub mod Numbers
pub mod Stores
pub mod Packing
pub mod Gathering
