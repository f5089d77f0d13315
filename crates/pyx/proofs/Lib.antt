-- Laws for the proofs of this crate and of those above it.
pub mod Reach
pub mod Lines
pub mod Names
pub mod Escapes
pub mod Attributes
pub mod Events
pub mod Clear
pub mod Few
