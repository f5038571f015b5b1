-- Laws of the program for typed lists: when it refuses, and what it prints.
pub mod Printed
