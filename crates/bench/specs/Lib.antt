-- The bench: its status, soundness, what carrying out a command, a second, a run of two lists and a run of a typed list do, what can happen to
-- it, one thing after another, and what an evening leaves. `Exports` hands on what a crate above has to name. `Steps` comes last, being the code's alone.
pub mod Status
pub mod Carry
pub mod Second
pub mod Run
pub mod Typed
pub mod Events
pub mod Evenings
pub mod Exports
pub mod Steps
