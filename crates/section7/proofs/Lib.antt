-- Demand 2, the Recommendation: the theorem that the reader of document 01 gives its triples, and the way to it.
-- ---- limits, and events one after the other
pub mod Passing
pub mod Giving
-- ---- start tags
pub mod Attributes
pub mod StartTags
-- ---- the productions
pub mod Names
pub mod Productions
pub mod OtherEvents
pub mod XmlContent
pub mod Identifiers
-- ---- the theorem
pub mod Section7
pub mod Documents
-- ---- worked examples
pub mod Deriving
pub mod Example
pub mod EmptyLang
-- ---- what is not in the grammar
pub mod Shapes
-- ---- each difference by an input
pub mod Differing
pub mod Beyond
