pub mod Choice
pub mod Numbers
pub mod Refusals
pub mod Loop
