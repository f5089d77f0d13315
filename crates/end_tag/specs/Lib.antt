-- End tags outside Literal content, in reading order.
-- ---- the lines: the object of a default property, and the statement of any
pub mod Object
-- the cells of a Collection
pub mod Cells
-- how many bytes they have at most
pub mod Room
-- ---- an end tag that matches, and what is left behind it
pub mod Ends
-- by the kind of its element: those that write lines, and a node
pub mod Kinds
pub mod Node
-- any end tag
pub mod Outside
