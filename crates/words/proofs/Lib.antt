-- Laws of big-endian numbers, of decimals, of bytes stored at a place, of the order of checks and of tests that the crates above cite too.
pub mod Laws
pub mod Front
pub mod Decimal
pub mod Stores
pub mod Order
pub mod FirstOf
pub mod Tests
