-- Words, and stretches that are kept.
pub mod Kept
pub mod Parts
pub mod Words
