-- What a call takes and hands back, in reading order.
-- ---- what a state means
pub mod Meaning
-- ---- the contract of a call
pub mod Meets
-- ---- what the contracts determine
pub mod Unique
pub mod Strength
-- ---- many events
pub mod Fed
