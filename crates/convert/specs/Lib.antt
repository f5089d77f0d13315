-- What a program does turn by turn.
-- ---- its way, in the definitions' words
pub mod Way
-- ---- the contracts of its functions
pub mod Places
-- ---- how they are met
pub mod Reading
pub mod Turning
pub mod Running
