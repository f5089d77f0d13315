-- A start tag outside Literal content, in reading order.
-- ---- what is made of a tag, and the tag as it is read
pub mod Made
pub mod Tag
-- ---- where each thing stands that a tag says
pub mod Giving
-- the element's name, where it may be too long
pub mod Names
-- the limits on what is kept
pub mod Limits
-- ---- the rules of the mode, which stand between 14 and the other refusals
pub mod Rules
-- those of the XMP profile
pub mod Packets
-- what a packet remembers
pub mod Remembered
-- ---- what is judged, and what comes of it
pub mod Judges
-- node elements
pub mod Nodes
-- property elements
pub mod Properties
-- by what it stands in
pub mod Places
-- the wrapper of a packet
pub mod Wrapper
-- a tag that is read, or the wrapper's
pub mod Reading
-- ---- from its form to what is carried out
pub mod Starting
