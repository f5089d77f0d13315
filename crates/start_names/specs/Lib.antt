pub mod Tag
pub mod Declarations
pub mod Found
pub mod Joined
pub mod Pairs
pub mod Repeats
pub mod Classes
