pub mod Capped
pub mod Places
pub mod States
