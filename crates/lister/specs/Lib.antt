-- What the lister writes.
pub mod Printed
