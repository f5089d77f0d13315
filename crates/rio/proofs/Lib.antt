-- Demand 2, the Rust: the theorem that the reader of document 01 does the same, and the way to it.
-- ---- tools
pub mod DomainLaws
pub mod Agreeing
pub mod States
pub mod SmallFunctions
-- ---- text and end tags
pub mod TextEvents
pub mod EndEvents
-- ---- start tags
pub mod AttributeLoop
pub mod ReadTags
pub mod NewStates
pub mod StartEvents
-- ---- the theorem
pub mod SameAsRust
-- ---- worked examples: P1, and what the Rust does outside the domain
pub mod Example
pub mod Outside
