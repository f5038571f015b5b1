-- Laws of what the programs say: the kit's list, numbers in decimal, lines, the line of a refusal, what is to be
-- written, and that a writer's answer is unique.
pub mod Decimal
pub mod Kit
pub mod Examples
pub mod Unique
pub mod Lines
pub mod RecordLine
pub mod Outputs
mod RefusalLine
mod Stores
