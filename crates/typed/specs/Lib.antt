-- What the program for typed lists prints.
pub mod Printed
