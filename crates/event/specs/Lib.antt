-- Where an event stands.
pub mod Place
-- What its handler does, beside what the definitions answer.
pub mod Result
-- The same with the table of rdf:IDs.
pub mod Progress
