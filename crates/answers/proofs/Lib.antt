pub mod Answering
pub mod Lengths
pub mod Rest
pub mod Saying
