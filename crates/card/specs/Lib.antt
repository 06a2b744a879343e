pub mod Lent
pub mod Inner
pub mod Walking
pub mod Memory
