-- Laws of the list program: when it refuses, and what it prints.
pub mod Printed
