-- What the contracts of `resolve` cite, and the laws about it. Resolve says what the crate promises; the others follow the RFC's sections.
pub mod Texts
pub mod Last
pub mod Parts
pub mod Turns
pub mod Segments
pub mod Output
pub mod Target
pub mod Resolve
