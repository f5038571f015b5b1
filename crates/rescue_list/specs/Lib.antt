-- What the program writes; last, steps of the code.
pub mod Printed
pub mod Steps
