-- The report's records: 01, "Two lists, one report"; and what the last of them say (02, Q-11).
pub mod Record
pub mod Latest
