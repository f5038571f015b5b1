-- Laws of what the assembler writes.
pub mod Printed
