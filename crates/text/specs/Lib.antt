-- What a pupil types (02, Q-1): lines and words, numbers and goals, names, one line, a whole text, the way back, and the line shown. `Steps` and
-- `ListSteps` come last, being the code's alone.
pub mod Split
pub mod Number
pub mod Goal
pub mod Names
pub mod Findings
pub mod Line
pub mod Assemble
pub mod Lister
pub mod Shown
pub mod Steps
pub mod ListSteps
