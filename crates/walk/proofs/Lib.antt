-- Laws of the walk, in two groups: what a reader of this crate wants to know (how far a command reaches, the rests of a list and of two
-- lists joined, what is shown, that results are unique), and the laws behind single functions, of which a walk elsewhere can use those of one turn.
pub mod Spans
pub mod Rests
pub mod Joined
pub mod Shows
pub mod Unique
pub mod Turns
mod Parts
