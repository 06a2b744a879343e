pub mod Ordered
pub mod Widths
