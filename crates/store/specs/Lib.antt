-- The macro store: 01, "Bench, seconds and macros", and rows 11 to 19 and 25 of the codes. First the meanings, which a reader has to believe:
pub mod Roles
pub mod Words
pub mod Pool
pub mod WrittenOut
pub mod Checks
pub mod Effects
pub mod Sound
-- then the steps by which the implementation works them out, which are proved to come to the same.
pub mod PoolSteps
pub mod SpanSteps
pub mod GroupSteps
pub mod TallySteps
pub mod SecondSteps
