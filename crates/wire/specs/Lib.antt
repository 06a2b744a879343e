pub mod Bytes
pub mod Layout
pub mod Opcodes
pub mod Header
pub mod Frame
pub mod RoundTrip
pub mod Inner
