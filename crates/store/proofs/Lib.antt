-- Laws of the macro store, in two groups: what a reader of this crate wants to know (what a written-out list is, that soundness is kept, what a
-- running macro hands over, what entries are free, that results are unique),
pub mod WrittenOut
pub mod Sound
pub mod Running
pub mod Handed
pub mod Free
pub mod ClosedMarks
pub mod Unique
-- and the laws behind these and behind single functions.
pub mod Places
pub mod Moves
pub mod Entries
pub mod Clear
pub mod Kept
pub mod Flat
pub mod Parts
pub mod Laws
pub mod Walk
pub mod Contents
pub mod Seconds
pub mod WaitLaws
pub mod SpanLaws
pub mod SpanTable
pub mod Gathered
pub mod Turns
pub mod SoundLaws
pub mod Tallies
