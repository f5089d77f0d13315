-- What a line is made of, as the calls are handed it.
pub mod Terms
-- The parts of a line, one after the other.
pub mod Lines
-- How many bytes they have at most.
pub mod Room
