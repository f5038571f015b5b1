-- Laws of the report's records: that the writer's answer is unique, what it leaves on a refusal, what the last records say, and the law behind the
-- writer.
pub mod Unique
pub mod Calls
pub mod LastRecords
mod Offered
