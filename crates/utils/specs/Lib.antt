-- What the contracts of this crate say beside the definitions of document 01.
pub mod Decoding
pub mod Ranges
pub mod Plain
pub mod Names
pub mod Walking
