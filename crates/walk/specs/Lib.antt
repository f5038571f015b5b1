-- How a list of commands is walked: 01, "Two lists, one report".
pub mod Walk
pub mod Shown
