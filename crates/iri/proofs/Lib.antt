-- Laws for the proofs of this crate, in reading order.
-- ---- grammars on bytes
pub mod Characters
pub mod Languages
-- ---- RFC 3987's productions
pub mod Components
pub mod Hosts
pub mod Paths
pub mod Rows
pub mod Addresses
pub mod Octets
-- ---- loops and searches
pub mod Counting
pub mod Searches
pub mod Walks
pub mod Finding
-- ---- in the shape of the code
pub mod Classes
pub mod Checks
