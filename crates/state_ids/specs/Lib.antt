-- The table of rdf:IDs, in reading order.
-- ---- what a table means, and when it is valid
pub mod Ids
-- ---- what the calls do to it
pub mod Adding
-- ---- the loops that walk it
pub mod Walks
