-- What is asked of all that is lent.
pub mod Asked
-- From what was decoded to what is done.
pub mod Dispatch
-- Start tags and end tags, by where they stand.
pub mod Tags
-- The arms of `parse_event`.
pub mod Arms
-- What `core` asks, and what it does.
pub mod Core
-- What `feed` does, and what a program prints that goes on with it.
pub mod Goes
pub mod Waiting
pub mod Prints
-- How the calls come to their answers.
pub mod Starting
pub mod Stepping
