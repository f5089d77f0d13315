-- The names of the rdf namespace, by what stands behind it.
pub mod Names
-- Refusals 14, 15 and 18, by which attributes there are; what a start tag then opens.
pub mod Judged
-- A generated IRI and a generated label, in a lent area.
pub mod Made
