-- What a command is on the wire: 01, "A command on the wire" and rows 1 to 10 and 24 of "Codes, in the order they are tried"; last, steps of the
-- code.
pub mod Table
pub mod Kind
pub mod Judge
pub mod Read
pub mod Write
pub mod Steps
