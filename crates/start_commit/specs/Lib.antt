-- The lines of a start tag, from what was planned.
pub mod Told
-- The rdf:ID.
pub mod Entered
-- The document behind it.
pub mod Acts
