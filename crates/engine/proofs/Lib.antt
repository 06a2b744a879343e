pub mod Tests
pub mod Scanned
pub mod Refusals
pub mod Plans
pub mod Accepting
pub mod Called
