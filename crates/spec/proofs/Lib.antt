-- Facts on tests and texts that every later layer cites.
pub mod Booleans
pub mod Bytes
