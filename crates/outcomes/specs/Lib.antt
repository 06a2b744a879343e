pub mod Finding
pub mod Deciding
