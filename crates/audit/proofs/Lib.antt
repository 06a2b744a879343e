pub mod Ready
pub mod Walks
pub mod Pairs
pub mod Decided
pub mod Both
pub mod Bits
pub mod Facts
pub mod Opcodes
