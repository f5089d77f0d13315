-- The theorems about the definitions, in reading order.
-- ---- worked examples at the limits
pub mod AtLimits
-- ---- a tool
pub mod Always
pub mod Rules
-- ---- grammars
pub mod Grammar
-- ---- characters
pub mod Utf8
pub mod Cuts
pub mod Spelled
pub mod Rfc3986Texts
pub mod LanguageTags
pub mod LowerTags
-- ---- events and calls
pub mod PyxCut
pub mod Calls
pub mod Refusals
pub mod Division
-- ---- attributes
pub mod AttributeNames
pub mod Roles
-- ---- labels, subjects, lists
pub mod Labels
pub mod Decimal
pub mod Subjects
pub mod Lists
pub mod NewLabels
pub mod Cells
-- ---- inside an element
pub mod Frames
pub mod Inside
pub mod Children
pub mod Statements
pub mod Numbering
pub mod Inherited
pub mod Languages
-- ---- what events keep: limits, and how elements stand
pub mod Changes
pub mod Limits
pub mod Nesting
-- ---- document 02, request 1: packets
pub mod Packets
pub mod Parts
pub mod NoneOut
pub mod ModeRefusals
pub mod HadRdf
pub mod OneSubject
-- ---- lines
pub mod NodeLabels
-- ---- all that is written is N-Triples
pub mod EventTexts
pub mod Texts
pub mod NTriplesLines
pub mod NTriplesGrammar
-- ---- what is written reads back
pub mod Utf8Bytes
pub mod NTriplesReading
pub mod SameBytes
