-- What is kept of a document between events, in reading order.
pub mod Language
pub mod Meaning
pub mod Valid
-- ---- what stays, what is held, what a read needs
pub mod Stay
pub mod Held
pub mod Live
-- ---- the test of validity
pub mod Tests
