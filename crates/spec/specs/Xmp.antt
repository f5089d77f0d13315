-- Document 02, request 1: the XMP profile, after ISO 16684-1. The rules that it adds to document 01, in the request's order; all else is as
-- document 01 says, by the same definitions.
use Rattle.std.specs.Prelude.{Bool, true, false, ◌&&◌, ◌||◌, not, List, [], ◌∷◌, ◌++◌}
use Rattle.std.proofs.Math.Option.{Option, none, some}
use Rattle.spec.specs.Bytes.{Bytes, ascii, when◌then◌else◌, same, is_empty, is_some, each, ◌>>◌, require◌or◌}
use Rattle.spec.specs.Numbers.{Answer, refuse, good}
use Rattle.spec.specs.declared.Refusal.TheVariants.{OverLimit}
use Rattle.spec.specs.Pyx.{Attribute}
use Rattle.spec.specs.Namespaces.{declared, expand_element, known_attribute, expanded_names}
use Rattle.spec.specs.NTriples.{Triple}
use Rattle.spec.specs.Rdf.{rdf}
use Rattle.spec.specs.Document.{Kind, rdf_rdf, wrapper, node_element, property_element, xml_element, Part, ordinary, top_level, alternatives, Frame, Doc, Place, outside, nodes, properties, nodes_or_text, xml, in_scope}
use Rattle.spec.specs.XmlLang.{unsaid, carries}
use Rattle.spec.specs.StartTag.{Tag, all_short}

-- ---- "the x:xmpmeta wrapper (namespace adobe:ns:meta/)"

-- namespace and local name joined
unfoldable pub wrapper_name : Bytes
wrapper_name = ascii "adobe:ns:meta/" ++ ascii "xmpmeta"

-- is a name good, and the wrapper's?
unfoldable pub names_wrapper : Answer Bytes → Bool
names_wrapper (refuse n) = false
names_wrapper (good i) = same i wrapper_name

-- "The wrapper may be absent": is this start tag the wrapper's? Only the root's can be, and only in the profile.
unfoldable pub starts_wrapper : Bool → Bytes → List Attribute → List Frame → Bool
starts_wrapper false n as' fs = false
starts_wrapper true n as' fs = is_empty fs && names_wrapper (expand_element (declared as' ++ in_scope fs) n)

-- "takes no label, and its attributes but xmlns are ignored": the document behind its start tag
unfoldable pub wrapped : Bytes → List Attribute → Doc → Doc
wrapped n as' d = record {
  mode = d.mode;
  start_base = d.start_base;
  frames = record { name = n; bindings = declared as'; own_base = none; own_tag = unsaid; kind = wrapper false; part = ordinary } ∷ d.frames;
  rooted = true;
  labels = d.labels;
  ids = d.ids;
}

-- "9 to 15, and 8 for an attribute without prefix, are not given for the wrapper": 8 for an unknown prefix and the limit on names are
unfoldable pub open_wrapper : Bytes → List Attribute → Doc → Answer (List Triple × Doc)
open_wrapper n as' d = do
  let scope = declared as' ++ in_scope d.frames
  each (known_attribute scope) as'
  require all_short (expanded_names scope as') or OverLimit
  good ([], wrapped n as' d)

-- ---- the rules for any other start tag

-- "if present it holds exactly one rdf:RDF": this is rdf:RDF, and the first (EndTag: 19 where it closes without one)
unfoldable pub is_its_rdf : Bool → Tag → Bool
is_its_rdf had t = same t.iri (rdf "RDF") && not had

-- the same rdf:about as those before, if any
unfoldable pub same_about : Option Bytes → Option Bytes → Bool
same_about first none = false
same_about none (some a) = true
same_about (some b) (some a) = same a b

-- "Top-level elements are rdf:Description and all have one resolved rdf:about"
unfoldable pub is_top_level : Option Bytes → Tag → Bool
is_top_level first t = same t.iri (rdf "Description") && same_about first t.about

-- "rdf:ID, rdf:nodeID, rdf:datatype and every parseType but Resource are out"
unfoldable pub resource_at_most : Option Bytes → Bool
resource_at_most none = true
resource_at_most (some v) = same v (ascii "Resource")

unfoldable pub has_none_out : Tag → Bool
has_none_out t = not (is_some t.id) && (not (is_some t.node_id) && (not (is_some t.datatype) && resource_at_most t.parse_type))

-- "Where the first rdf:li of an rdf:Alt carries xml:lang, every other one does too"
unfoldable pub carries_too : Option Bool → Tag → Bool
carries_too none t = true
carries_too (some false) t = true
carries_too (some true) t = not (same t.iri (rdf "li")) || carries t.own_tag

-- by what the element around is in the packet
unfoldable pub keeps_part : Part → Tag → Bool
keeps_part ordinary t = true
keeps_part (top_level first) t = is_top_level first t
keeps_part (alternatives first) t = carries_too first t

unfoldable pub keeps_kind : Kind → Part → Tag → Bool
keeps_kind rdf_rdf p t = keeps_part p t
keeps_kind (wrapper had) p t = is_its_rdf had t
keeps_kind (node_element s li) p t = keeps_part p t
keeps_kind (property_element q v) p t = true
keeps_kind xml_element p t = true

-- without the wrapper the root is rdf:RDF
unfoldable pub keeps_around : List Frame → Tag → Bool
keeps_around [] t = is_its_rdf false t
keeps_around (f ∷ fs) t = keeps_kind f.kind f.part t

-- does a start tag keep the rules of the profile?
unfoldable pub keeps : Bool → List Frame → Tag → Bool
keeps false fs t = true
keeps true fs t = keeps_around fs t && has_none_out t

-- ---- what is remembered

-- what a new element is in the packet, by where it stands and its IRI
unfoldable pub new_part : Bool → Place → Bytes → Part
new_part false p i = ordinary
new_part true outside i = top_level none
new_part true nodes i = when same i (rdf "Alt") then alternatives none else ordinary
new_part true nodes_or_text i = when same i (rdf "Alt") then alternatives none else ordinary
new_part true (properties s li) i = ordinary
new_part true xml i = ordinary

-- the first top-level element gives the rdf:about, the first rdf:li of an rdf:Alt says whether xml:lang is carried
unfoldable pub with_child : Tag → Part → Part
with_child t ordinary = ordinary
with_child t (top_level none) = top_level t.about
with_child t (top_level (some a)) = top_level (some a)
with_child t (alternatives none) = when same t.iri (rdf "li") then alternatives (some (carries t.own_tag)) else alternatives none
with_child t (alternatives (some b)) = alternatives (some b)

unfoldable pub noted : Bool → Tag → Part → Part
noted false t p = p
noted true t p = with_child t p

unfoldable pub all : Unit {0}
unfolding wrapper_name names_wrapper starts_wrapper wrapped open_wrapper is_its_rdf same_about is_top_level resource_at_most has_none_out carries_too keeps_part keeps_kind keeps_around keeps new_part with_child noted
all = tt
