-- The form of a start tag and its counts, in reading order.
-- ---- a tag with as many attributes as an element may have: the order of refusals, then its form
pub mod Order
pub mod Form
-- ---- a tag with more of them: as it is decoded, and the order of its refusals
pub mod Tie
pub mod CrowdedOrder
-- the marks of its attributes' names
pub mod Marks
-- whether it is well-formed
pub mod CrowdedForm
-- why it is refused
pub mod Crowd
-- its own declarations as rows, the classes by them, and laws of these
pub mod Own
pub mod OwnLaws
