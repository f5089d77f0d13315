-- Documents that are run through the calls, in reading order.
-- ---- calls one after another, and the events that they took
pub mod Runs
pub mod Events
-- ---- what is proved of documents, for those that are run
pub mod Whole
pub mod Rust
-- ---- elements and lists of a run
pub mod Elements
pub mod Collections
pub mod Lists
-- ---- document 02, request 1: packets
pub mod Packets
