-- Numbers as bytes, highest byte first; text as bytes; codes in the order they are tried.
pub mod BigEndian
pub mod Text
pub mod Codes
