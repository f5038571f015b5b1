-- Four seats on one bench: the queues, the state and which seat is next, queueing, turns with seconds and status, and what can happen to them.
pub mod Queues
pub mod State
pub mod Queueing
pub mod Turn
pub mod Events
