-- What the calls for a host in C promise, in reading order.
-- ---- numbers as bytes
pub mod Little
-- ---- a state as bytes
pub mod Image
-- ---- the contract of a call
pub mod Meets
-- ---- how bytes are read and written
pub mod Rows
pub mod Saving
-- ---- how the calls come to their answers
pub mod Calling
-- ---- what a host may rely on
pub mod Use
pub mod Unique
pub mod Runs
