-- What the contracts of module `replay` cite.
pub mod Lines
pub mod Ends
pub mod Ways
