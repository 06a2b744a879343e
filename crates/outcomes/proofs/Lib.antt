pub mod Decided
pub mod Few
