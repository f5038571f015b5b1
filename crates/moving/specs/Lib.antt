-- What is found wrong with a list that is moved to a card or from one.
pub mod Found
