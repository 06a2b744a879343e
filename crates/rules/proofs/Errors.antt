-- The errors of this trade, each shut out by a theorem.
pub mod Before
pub mod Acked
pub mod Nacked
pub mod Turning
pub mod Turned
pub mod Reads
