-- What the calls of this crate promise, in reading order.
-- ---- where the first event ends
pub mod First
-- ---- an event decoded
pub mod Lines
pub mod Names
pub mod Escapes
pub mod Attributes
pub mod Decode
