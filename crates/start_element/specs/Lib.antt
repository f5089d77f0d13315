-- The element that a start tag outside Literal content opens, in reading order.
pub mod Element
-- ---- the calls
pub mod Sizes
pub mod Rows
pub mod Places
-- ---- what they do to a valid state
pub mod Laws
