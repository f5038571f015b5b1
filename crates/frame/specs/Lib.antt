-- The status frame: 01, "Status frame, 32 bytes".
pub mod Rules
pub mod Bytes
pub mod Answers
