-- What the list program prints.
pub mod Printed
