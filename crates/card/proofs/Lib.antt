pub mod Called
pub mod Fresh
pub mod Limited
pub mod Memory
