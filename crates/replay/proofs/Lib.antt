mod Past
mod Rest
pub mod Less
mod Listing
pub mod Text
pub mod Lines
