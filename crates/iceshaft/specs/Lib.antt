-- What the arguments say.
pub mod Arguments
-- What is told, and what follows.
pub mod Telling
