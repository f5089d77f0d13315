-- The lines of a start tag, in the definitions' words.
pub mod Lines
