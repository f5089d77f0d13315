-- The definitions of document 01, as document 02 amends it, in reading order.
-- ---- numbers, limits, texts
pub mod Numbers
pub mod Limits
pub mod Bytes
pub mod Utf8
-- ---- grammars of the public documents
pub mod Grammar
pub mod Abnf
pub mod Rfc3986
pub mod Rfc3987
pub mod Rfc5646
pub mod XmlNames
-- ---- the language that xml:lang says
pub mod XmlLang
-- ---- events
pub mod Pyx
pub mod PyxCut
pub mod Namespaces
-- ---- triples and lines
pub mod NTriples
pub mod NTriplesGrammar
pub mod NTriplesReading
-- ---- from events to triples
pub mod Rdf
pub mod Modes
pub mod Document
pub mod StartTag
pub mod Xmp
pub mod Productions
pub mod XmlLiteral
pub mod Opening
pub mod EndTag
pub mod RdfXml
-- ---- what holds of the open elements and of all that is kept
pub mod Within
pub mod Nesting
-- ---- the calls and the program
pub mod Calls
pub mod Pyx2nt
pub mod Feeding
-- ---- worked examples
pub mod Examples
-- ---- demand 3
pub mod Lists
pub mod ReadingBack
pub mod Inside
pub mod Languages
-- ---- document 02, request 1
pub mod Packets
