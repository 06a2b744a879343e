-- Calls: what is refused, what an accepted one does, and any run of them.
pub mod Accepted
pub mod Well
pub mod Moves
pub mod Fresh
pub mod Agrees
pub mod Refused
pub mod Dropped
pub mod Called
pub mod Buffers
pub mod Completions
pub mod Tidy
pub mod Room
pub mod Emits
pub mod Ledger
