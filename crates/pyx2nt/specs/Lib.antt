-- The last line.
pub mod LastLine
