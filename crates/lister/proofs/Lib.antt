-- Laws of what the lister writes.
pub mod Printed
