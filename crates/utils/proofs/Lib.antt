-- Laws for the proofs of this crate and of those above it: these cite Front, Walking and Names.
pub mod Tools
pub mod Computed
-- ---- UTF-8
pub mod Utf8
pub mod Front
pub mod Decoding
pub mod Walking
-- ---- characters and names
pub mod Ranges
pub mod Bounds
pub mod Names
pub mod Plain
