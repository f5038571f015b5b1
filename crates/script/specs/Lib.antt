-- What the test programs share: stretches of a script, where a program stands in it, and lent rooms.
pub mod Stretches
pub mod Places
pub mod Rooms
