pub mod Below
pub mod Cases
pub mod Given
pub mod Each
pub mod Loop
