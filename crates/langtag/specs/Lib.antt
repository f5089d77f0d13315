-- What the calls answer, in reading order.
-- ---- the answers
-- ---- the machine
pub mod Machine
