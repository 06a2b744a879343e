pub mod Asked
pub mod Scanning
pub mod Refusing
pub mod Planning
pub mod Settling
pub mod Body
