-- Tags piece by piece.
pub mod Tags
