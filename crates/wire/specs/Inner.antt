-- What private functions promise one another. No public contract cites these, and a reader need not believe them.
pub mod Out
pub mod Seen
