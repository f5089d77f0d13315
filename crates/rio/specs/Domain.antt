-- Document 01, "Domain of equality with the Rust", as request 2 of document 02 amends it: clause by clause, of one
-- event at a document.
--
-- The theorems begin where both sides have the same decoded events; that quick_xml and PYX yield the same ones is not
-- proved. So the clauses on how XML becomes events exclude nothing here. They are:
--   DOCTYPE: parse_doctype takes entities from it;
--   comment, CDATA: text on both sides of a comment is two events to the Rust, and parse_step drops a CDATA section;
--   CR, and tab or line end in attribute values: XML 1.0 has them normalised before there is an event;
--   blank-only text with a character reference: 670 and 680 look at the text before references are resolved;
--   a reference in rdf:parseType: so does 406 at its value.
use Rattle.std.specs.Prelude.{◌≡◌, Bool, true, false, List, ◌++◌}
use Rattle.spec.specs.Bytes.{ascii, same, begins, is_empty, All}
use Rattle.spec.specs.Numbers.{refuse}
use Rattle.spec.specs.declared.Refusal.{Refusal}
use Rattle.spec.specs.declared.Refusal.TheVariants.{Incomplete, NoRoom, BadState, Closed, NotPyx, NotWellFormed, OverLimit, NoNamespace, NotNcName, BadLanguage, BadIri, RepeatedId, BadLabel, Reserved, TwoNames, StrayText, EmptyLiteral, LabelsSpent, ProfileBroken}
use Rattle.spec.specs.Pyx.{Attribute, attribute, Event, opening, closing, text, instruction}
use Rattle.spec.specs.Namespaces.{Binding, declared, is_declaration, name_of, is_known, all_legal}
use Rattle.spec.specs.Document.{Doc, in_scope, place_in}
use Rattle.spec.specs.Opening.{is_second_root, is_xml, repeated}
use Rattle.spec.specs.RdfXml.{next}
use Rattle.theorems.specs.AttributeNames.{PrefixesKnown}
use Rattle.theorems.specs.Refusals.{matches}

-- ---- the clauses

-- every prefix of a start tag is known (Namespaces in XML 1.0, "Prefix Declared")
abbrev pub KnownPrefixes : Event → Doc → Type 0
KnownPrefixes (opening n as') d = PrefixesKnown (declared as' ++ in_scope d.frames) n as'
KnownPrefixes (closing n) d = Unit {0}
KnownPrefixes (text s) d = Unit {0}
KnownPrefixes instruction d = Unit {0}

-- one root, end tags that match, legal declarations, known prefixes
abbrev pub NamespaceWellFormed : Event → Doc → Type 0
NamespaceWellFormed (opening n as') d =
    (is_second_root d ≡ false) × (all_legal (declared as') ≡ true) × KnownPrefixes (opening n as') d
NamespaceWellFormed (closing n) d = matches n d.frames ≡ true
NamespaceWellFormed (text s) d = Unit {0}
NamespaceWellFormed instruction d = Unit {0}

-- not refused by this number
abbrev pub NotRefusedBy : Refusal → Event → Doc → Type 0
NotRefusedBy n e d = next e d ≡ refuse n → ⊥

-- expanded names outside Literal content, as written there
abbrev pub NoRepeatedAttribute : Event → Doc → Type 0
NoRepeatedAttribute (opening n as') d = repeated (place_in d.frames) as' d ≡ false
NoRepeatedAttribute (closing n) d = Unit {0}
NoRepeatedAttribute (text s) d = Unit {0}
NoRepeatedAttribute instruction d = Unit {0}

-- an attribute that is no empty xml:lang
abbrev pub NotEmptyLang : Attribute → Type 0
NotEmptyLang (attribute n v) = same n (ascii "xml:lang") ≡ true → is_empty v ≡ false

-- outside Literal content no xml:lang is empty: it clears the language here, and the Rust refuses it; inside, both
-- copy it
abbrev pub NoneCleared : Event → Doc → Type 0
NoneCleared (opening n as') d = is_xml (place_in d.frames) ≡ false → All NotEmptyLang as'
NoneCleared (closing n) d = Unit {0}
NoneCleared (text s) d = Unit {0}
NoneCleared instruction d = Unit {0}

-- the paragraph, in its words and order
pub record InDomain (e : Event) (d : Doc) : Type 0 where
  -- "Namespace-well-formed
  pub namespace_well_formed : NamespaceWellFormed e d
  -- UTF-8 documents" (5 is given before there is an event)
  -- "within the limits,
  pub within_the_limits : NotRefusedBy OverLimit e d
  -- without DOCTYPE, comment, CDATA, or CR; no tab or line end in attribute values; no blank-only text with a character
  -- reference in it;" (above)
  -- "attribute values inside Literal content escaped as Canonical XML does;" (Parser.as-it-stood)
  -- "no reference in rdf:parseType;" (above)
  -- "nothing refused by 13,
  pub not_refused_by_13 : NotRefusedBy BadLabel e d
  -- 18,
  pub not_refused_by_18 : NotRefusedBy LabelsSpent e d
  -- or 6 for a repeated attribute"
  pub no_repeated_attribute : NoRepeatedAttribute e d
  -- request 2: "the domain of equality now excludes empty xml:lang"
  pub none_cleared : NoneCleared e d

-- ---- unknown prefixes

-- Of unknown prefixes only two kinds are outside the domain, as the Rust does not look them up: of an attribute whose
-- written name begins `xml`, and in Literal content. Any other is refused by both.
abbrev pub XmlNameKnown : List Binding → Attribute → Type 0
XmlNameKnown bs a = is_declaration a ≡ false → begins (ascii "xml") (name_of a) ≡ true → is_known bs (name_of a) ≡ true

abbrev pub NeededPrefixes : Event → Doc → Type 0
NeededPrefixes (opening n as') d =
    (is_xml (place_in d.frames) ≡ true → PrefixesKnown (declared as' ++ in_scope d.frames) n as')
    × All (XmlNameKnown (declared as' ++ in_scope d.frames)) as'
NeededPrefixes (closing n) d = Unit {0}
NeededPrefixes (text s) d = Unit {0}
NeededPrefixes instruction d = Unit {0}

-- ---- the numbers outside it

-- Is a refusal outside the domain? What the Rust does there stands in Outside, by computation. Of 8, see above.
abbrev pub outside : Refusal → Bool
-- never given for an event itself
outside Incomplete = false
outside NoRoom = false
outside BadState = false
outside Closed = false
outside NotPyx = false
-- a second root, a repeated attribute and an illegal xmlns are read; an end tag without match is left to quick_xml
outside NotWellFormed = true
-- the Rust has no limits
outside OverLimit = true
outside NoNamespace = false
outside NotNcName = false
outside BadLanguage = false
outside BadIri = false
outside RepeatedId = false
-- the label is taken, and may be one that is generated
outside BadLabel = true
outside Reserved = false
outside TwoNames = false
outside StrayText = false
outside EmptyLiteral = false
-- a label's ninth digit is lost, so labels come again; the 100,000,000th rdf:li is rdf:_100000000
outside LabelsSpent = true
-- never given in the base mode
outside ProfileBroken = false
