pub mod Cutting
pub mod Kept
pub mod Rest
