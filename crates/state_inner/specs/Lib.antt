-- Elements inside Literal content, and reads.
pub mod Calls
pub mod Laws
