-- That the machine accepts what the grammar of RFC 5646 describes, and the laws of the loops, in reading order.
-- ---- a grammar of kinds
pub mod Places
-- ---- letters in either case
pub mod Letters
pub mod Lower
-- ---- subtags between hyphens
pub mod Hyphens
-- ---- the kinds of subtags
pub mod Counts
pub mod Subtags
-- ---- the machine
pub mod Machine
pub mod Grandfathered
pub mod WellFormed
