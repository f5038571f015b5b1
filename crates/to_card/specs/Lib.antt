-- What the program writes.
pub mod Printed
