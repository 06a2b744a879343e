pub mod Said
pub mod Headers
pub mod Plain
pub mod Replied
pub mod Shown
