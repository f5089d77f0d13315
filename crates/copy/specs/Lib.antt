-- Laws of the calls, in reading order.
-- ---- writes
pub mod Copy
-- ---- reads
pub mod Texts
pub mod Scan
pub mod Blocks
