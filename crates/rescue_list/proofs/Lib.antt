-- Laws of the lines, and of what the program writes.
pub mod Lines
pub mod Printed
