-- What the Rust does where document 01 refuses by a number outside the domain: it goes on. Each by computation, so
-- that no clause of the domain can be left out. What quick_xml refuses by itself is not looked at: end tags without
-- match, and names that are written twice.
use Rattle.std.specs.Prelude.{◌≡◌, refl, true, false, List, [], ◌∷◌, ◌++◌, ℕ, zero, suc}
use Rattle.std.proofs.Math.Option.{none}
use Prim.Native.String.{String}
use Rattle.spec.specs.Bytes.{Bytes, ascii, byte}
use Rattle.spec.specs.Numbers.{refuse}
use Rattle.spec.specs.declared.Refusal.{Refusal}
use Rattle.spec.specs.declared.Refusal.TheVariants.{NotWellFormed, OverLimit, NoNamespace, BadLabel, LabelsSpent}
use Rattle.spec.specs.Pyx.{Attribute, attribute, Event, opening, closing}
use Rattle.spec.specs.Rdf.{rdf}
use Rattle.spec.specs.NTriples.{named, blank, node, plain, Triple, triple}
use Rattle.spec.specs.Modes.{base_mode}
use Rattle.spec.specs.XmlLang.{unsaid}
use Rattle.spec.specs.Document.{node_element, ordinary, Doc, fresh}
use Rattle.spec.specs.RdfXml.{next}
use Rattle.spec.specs.RdfXml as X
use Rattle.rio.specs.Parser.{Ok, RdfXmlReader, new, parse_step, parse_all}
use Rattle.rio.specs.Parser as P
use Rattle.rio.specs.Related.{object_of_rust, value_state, above, states, depth, scopes, reader_of}
use Rattle.rio.proofs.SameAsRust.{then_read, read_all}

-- document 01 refuses the last of these events by this number; the Rust accepts them all, and gives these triples
abbrev Differs : List Event → Refusal → List Triple → Type 0
Differs es n ts =
    ((read_all es (fresh base_mode none)).1 ≡ refuse n) × (r : RdfXmlReader) × (parse_all es (new none) ≡ (ts, Ok r))

-- an attribute, and the declarations of the prefixes rdf, e and f
abbrev is : String → String → Attribute
is n v = attribute (ascii n) (ascii v)

abbrev with_prefixes : List Attribute → List Attribute
with_prefixes as' = attribute (ascii "xmlns:rdf") (rdf "") ∷ is "xmlns:e" "http://e/" ∷ is "xmlns:f" "http://e/" ∷ as'

-- <e:P ..>, and the lines that it gives
abbrev start_P : List Attribute → Event
start_P as' = opening (ascii "e:P") (with_prefixes as')

abbrev end_P : Event
end_P = closing (ascii "e:P")

abbrev is_P : String → Triple
is_P l = triple (blank (ascii l)) (rdf "type") (node (named (ascii "http://e/P")))

abbrev has_a : String → String → Triple
has_a l v = triple (blank (ascii l)) (ascii "http://e/a") (plain (ascii v))

-- ---- 6

-- a second root is one more
second_root : Differs (start_P [] ∷ end_P ∷ start_P [] ∷ []) NotWellFormed
    (is_P "riog00000001" ∷ is_P "riog00000002" ∷ [])
unfolding X.all P.all read_all then_read
second_root = (refl, _, refl)

-- an end tag without match: where quick_xml is not asked, it closes what is open
end_without_match : Differs (start_P [] ∷ closing (ascii "e:Q") ∷ []) NotWellFormed (is_P "riog00000001" ∷ [])
unfolding X.all P.all read_all then_read
end_without_match = (refl, _, refl)

-- an attribute whose expanded name is repeated is one more property
repeated_attribute : Differs (start_P (is "e:a" "1" ∷ is "f:a" "2" ∷ []) ∷ []) NotWellFormed
    (has_a "riog00000001" "1" ∷ has_a "riog00000001" "2" ∷ is_P "riog00000001" ∷ [])
unfolding X.all P.all read_all then_read
repeated_attribute = (refl, _, refl)

-- of rdf:about twice the last is taken
repeated-about : Differs
    (start_P (attribute (ascii "xmlns:r") (rdf "") ∷ is "rdf:about" "http://a" ∷ is "r:about" "http://b" ∷ []) ∷ [])
    NotWellFormed
    (triple (named (ascii "http://b")) (rdf "type") (node (named (ascii "http://e/P"))) ∷ [])
unfolding X.all P.all read_all then_read
repeated-about = (refl, _, refl)

-- an illegal xmlns is a declaration like any other
illegal_xmlns : Differs (start_P (is "xmlns:g" "" ∷ []) ∷ []) NotWellFormed (is_P "riog00000001" ∷ [])
unfolding X.all P.all read_all then_read
illegal_xmlns = (refl, _, refl)

-- ---- 7: the Rust has no limits

-- a, aa, ..
unfoldable row_of_a : ℕ → Bytes
row_of_a zero = ascii "a"
row_of_a (suc n) = byte "a" ∷ row_of_a n

-- n attributes, and their lines
unfoldable attributes_a : ℕ → List Attribute
attributes_a zero = []
attributes_a (suc n) = attribute (ascii "e:" ++ row_of_a n) [] ∷ attributes_a n

unfoldable lines_a : ℕ → List Triple
lines_a zero = is_P "riog00000001" ∷ []
lines_a (suc n) = triple (blank (ascii "riog00000001")) (ascii "http://e/" ++ row_of_a n) (plain []) ∷ lines_a n

-- 62 attributes and three declarations on one element
over_limit : Differs (start_P (attributes_a 62) ∷ []) OverLimit (lines_a 62)
unfolding X.all P.all read_all then_read row_of_a attributes_a lines_a
over_limit = (refl, _, refl)

-- ---- 8: an unknown prefix, in Literal content and where the name begins `xml`

-- <e:p rdf:parseType="Literal">
abbrev start_literal : Event
start_literal = opening (ascii "e:p") (is "rdf:parseType" "Literal" ∷ [])

unknown_prefix : Differs (start_P [] ∷ start_literal ∷ opening (ascii "x:y") [] ∷ []) NoNamespace
    (is_P "riog00000001" ∷ [])
unfolding X.all P.all read_all then_read
unknown_prefix = (refl, _, refl)

unknown_xml_prefix : Differs (start_P (is "xmlz:a" "1" ∷ []) ∷ []) NoNamespace (is_P "riog00000001" ∷ [])
unfolding X.all P.all read_all then_read
unknown_xml_prefix = (refl, _, refl)

-- ---- 13: the label is taken; one that is generated then stands for two nodes

label-ends_in_stop : Differs (start_P (is "rdf:nodeID" "k." ∷ []) ∷ []) BadLabel (is_P "k." ∷ [])
unfolding X.all P.all read_all then_read
label-ends_in_stop = (refl, _, refl)

-- <e:P> <e:p> <e:P rdf:nodeID="riog00000001">
label_as_generated : Differs
    (start_P [] ∷ opening (ascii "e:p") [] ∷ start_P (is "rdf:nodeID" "riog00000001" ∷ []) ∷ []) BadLabel
    (is_P "riog00000001" ∷ is_P "riog00000001" ∷ [])
unfolding X.all P.all read_all then_read
label_as_generated = (refl, _, refl)

-- ---- 18: behind 99,999,999 labels a label's ninth digit is lost

abbrev labels_spent : Doc
labels_spent = record { mode = base_mode; start_base = none; frames = []; rooted = false; labels = 99_999_999; ids = [] }

label-again : (next (start_P []) labels_spent ≡ refuse LabelsSpent)
    × (r : RdfXmlReader) × (parse_step (start_P []) (reader_of labels_spent []) ≡ Ok (is_P "riog00000000" ∷ [], r))
unfolding X.all P.all reader_of states depth scopes
label-again = (refl, _, refl)

-- and behind 99,999,999 rdf:li the number is one more
abbrev lis_spent : Doc
lis_spent = record {
  mode = base_mode;
  start_base = none;
  frames = record {
    name = ascii "e:P";
    bindings = (ascii "rdf", rdf "") ∷ [];
    own_base = none;
    own_tag = unsaid;
    kind = node_element (blank (ascii "k")) 99_999_999;
    part = ordinary;
  } ∷ [];
  rooted = true;
  labels = 1;
  ids = [];
}

abbrev li : List Event
li = opening (ascii "rdf:li") [] ∷ closing (ascii "rdf:li") ∷ []

li_goes_on : ((read_all li lis_spent).1 ≡ refuse LabelsSpent)
    × (r : RdfXmlReader)
    × (parse_all li (reader_of lis_spent []) ≡ (triple (blank (ascii "k")) (rdf "_100000000") (plain []) ∷ [], Ok r))
unfolding X.all P.all read_all then_read reader_of states depth scopes above value_state object_of_rust
li_goes_on = (refl, _, refl)
