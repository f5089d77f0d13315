-- What the contracts of this crate say beside the grammar of RFC 3987.
pub mod Parts
pub mod Forms
pub mod Addresses
