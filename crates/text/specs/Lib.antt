-- Text that changes nothing.
pub mod Blank
-- The text of a default property.
pub mod Object
