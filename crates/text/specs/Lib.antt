pub mod Text
pub mod Words
pub mod Number
pub mod Hex
pub mod Line
pub mod Out
pub mod Inner
