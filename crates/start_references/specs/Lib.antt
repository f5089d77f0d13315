-- The references of a start tag, in reading order.
-- ---- one of them, resolved
pub mod Reference
-- ---- the values of a tag's roles and its base, then its references
pub mod Values
pub mod References
