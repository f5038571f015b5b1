-- Laws of the bench, in two groups: what a reader wants to know (`Demands` is the file to open first; `Cases` has 01's starred examples, `Dark` what
-- is said of the power, `FreeEntries` of the free macro entries, `HowMany` of the pictures that come, `TwoEvenings` of lists that are run in parts,
-- `RescuedRun` of what is left of damaged lists, `Report`, `TypedReport` and `LineShown` what a moderator asks of the records), and the laws behind those and behind single functions;
-- `Exports` hands on laws from below that a crate above rests on.
pub mod Demands
pub mod Cases
pub mod Dark
pub mod FreeEntries
pub mod HowMany
pub mod TwoEvenings
pub mod SameLater
pub mod RescuedRun
pub mod Report
pub mod TypedReport
pub mod LastNumbers
pub mod LineShown
pub mod Slips
pub mod Unique
pub mod UniqueRun
pub mod UniqueTyped
pub mod Rows
pub mod Camera
pub mod Sorts
pub mod InEffect
pub mod Sound
pub mod ByTally
pub mod MacroRun
pub mod InTurn
pub mod Joining
pub mod EveningCodes
pub mod Back
pub mod Outcomes
pub mod Exports
pub mod Own
mod Decisions
mod Shapes
mod Judging
mod Executing
mod Listing
mod Sources
mod TypedRun
mod TwoLists
mod Ending
