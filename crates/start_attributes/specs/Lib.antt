-- The attributes of a start tag, in reading order.
-- ---- one of them: the words of the rdf namespace; what it is there for, and whether its value is good in it
pub mod Vocabulary
pub mod Role
pub mod Judgment
-- ---- the same by its class
pub mod Attributes
-- ---- all of them
pub mod Places
pub mod Reads
pub mod First
pub mod Properties
pub mod Short
