-- Events that write no lines: what their handlers promise.
pub mod Quiet
-- XML text: which property keeps it, and what adding it does.
pub mod Xml
pub mod Added
-- Text and end tags.
pub mod Events
-- Start tags: judged, copied, and one more element open.
pub mod Judged
pub mod Known
pub mod Copied
pub mod Entered
