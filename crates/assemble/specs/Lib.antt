-- What the assembler writes.
pub mod Printed
