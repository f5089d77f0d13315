-- What calls on standard input and output come to, and the line of a failure.
-- ---- the definitions
pub mod Answers
pub mod Telling
-- ---- how the code decides them
pub mod Deciding
