-- Changes at the top of the open elements, in reading order.
pub mod Change
-- ---- the calls
pub mod Calls
-- ---- what they do to a valid state
pub mod Top
pub mod Laid
pub mod Laws
-- ---- what a packet remembers
pub mod Packets
-- ---- a node that closes
pub mod Take
pub mod NodeLaws
