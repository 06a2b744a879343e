pub mod Begun
pub mod Acting
pub mod Ended
