-- Laws of the four seats, in two groups: what a reader wants to know (`Fair`, that a waiting seat is served within four turns; `Orderly`, that a seat's
-- commands are carried out in order and numbered; `Codes`, the order of codes and which depend on seat and bytes alone; `Shared`, what the bench's own
-- theorems say of the shared bench, demand 3 among them; `Calls`, what a refusal leaves; `Good`, that every state that is reached is sound; `Unique`,
-- that a promise allows one result), and the laws behind those and behind single functions.
pub mod Fair
pub mod Orderly
pub mod Codes
pub mod Shared
pub mod Calls
pub mod Good
pub mod Unique
mod Examples
mod Laws
mod Fronts
mod States
