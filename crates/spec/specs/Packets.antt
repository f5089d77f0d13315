-- Document 02, request 1: "a packet accepted here gives the lines that the base gives for its rdf:RDF, with the same base
-- and the wrapper's namespace bindings" (theorem: crate `theorems`, Packets).
use Rattle.std.specs.Prelude.{◌≡◌, ◌⊎◌, Bool, true, false, List, [], map}
use Rattle.std.proofs.Math.Option.{Option, none, some}
use Rattle.spec.specs.Bytes.{Bytes, All}
use Rattle.spec.specs.Numbers.{good}
use Rattle.spec.specs.Modes.{base_mode, xmp_mode}
use Rattle.spec.specs.Pyx.{Attribute, opening}
use Rattle.spec.specs.Rdf.{rdf}
use Rattle.spec.specs.NTriples.{named, Triple}
use Rattle.spec.specs.Document.{Value, default, collection, literal, other, Kind, rdf_rdf, wrapper, node_element, property_element, xml_element, Part, ordinary, top_level, alternatives, Frame, Doc, fresh, with_part}
use Rattle.spec.specs.StartTag.{Tag, read_tag}
use Rattle.spec.specs.Xmp.{wrapped}
use Rattle.spec.specs.RdfXml.{next}
use Rattle.spec.specs.Lists.{After}
use Rattle.spec.specs.Inside.{innermost}

-- an open element with nothing remembered for the profile
abbrev pub bare : Frame → Frame
bare f = with_part ordinary f

-- the same document in the base mode: the same start base, open elements, labels and rdf:IDs
unfoldable pub in_base : Doc → Doc
in_base d = record {
  mode = base_mode;
  start_base = d.start_base;
  frames = map bare d.frames;
  rooted = d.rooted;
  labels = d.labels;
  ids = d.ids;
}

-- What a packet is to the base, behind each accepted event of it: the state and every line so far.
pub data Packet (b : Option Bytes) : Doc → List Triple → Type 0 where
  -- without a wrapper, or before it: the base gives the same lines from the same start base
  unwrapped : {d : Doc} {ts : List Triple} → After (fresh base_mode b) (in_base d) ts → Packet b d ts
  -- from the wrapper on: the base gives the same lines if it starts with the same start base inside one open element,
  -- which has the wrapper's namespace bindings, no xml:base and no xml:lang, and in which rdf:RDF stands as a root
  in_wrapper : {d : Doc} {ts : List Triple} (n : Bytes) (as' : List Attribute)
      → After (in_base (wrapped n as' (fresh xmp_mode b))) (in_base d) ts → Packet b d ts

-- ---- what is remembered for the profile, by the kind of the element (theorem: crate `theorems`, Parts)

-- without the profile nothing; in it the rdf:about in rdf:RDF, and in node elements that are an rdf:Alt whether xml:lang
-- is carried
abbrev pub Remembers : Bool → Kind → Part → Type 0
Remembers false k p = p ≡ ordinary
Remembers true rdf_rdf p = (a : Option Bytes) × (p ≡ top_level a)
Remembers true (wrapper b) p = p ≡ ordinary
Remembers true (node_element s li) p = (p ≡ ordinary) ⊎ ((l : Option Bool) × (p ≡ alternatives l))
Remembers true (property_element q v) p = p ≡ ordinary
Remembers true xml_element p = p ≡ ordinary

abbrev pub Parts : Bool → List Frame → Type 0
Parts p fs = All (λ f. Remembers p f.kind f.part) fs

-- ---- "rdf:ID, rdf:nodeID, rdf:datatype and every parseType but Resource are out" (theorem: crate `theorems`, NoneOut)

-- a property element is a default one, without a datatype
abbrev pub PlainValue : Value → Type 0
PlainValue (default d o) = d ≡ none
PlainValue (collection cs) = ⊥
PlainValue (literal x) = ⊥
PlainValue other = ⊥

-- and without an rdf:ID; no element stands in Literal content
abbrev pub PlainKind : Kind → Type 0
PlainKind rdf_rdf = Unit {0}
PlainKind (wrapper b) = Unit {0}
PlainKind (node_element s li) = Unit {0}
PlainKind (property_element p v) = (p.id ≡ none) × PlainValue v
PlainKind xml_element = ⊥

-- so of all open elements; and no rdf:ID is entered
pub record NoneOut (d : Doc) : Type 0 where
  pub elements : All (λ f. PlainKind f.kind) d.frames
  pub ids : d.ids ≡ []

-- ---- "Top-level elements are rdf:Description and all have one resolved rdf:about" (theorem: crate `theorems`, OneSubject)

-- the start tag of a top-level element is accepted: directly in rdf:RDF; the documents before and behind it
pub record TopStart (d d' : Doc) : Type 0 where
  pub name : Bytes
  pub attributes : List Attribute
  pub lines : List Triple
  pub starts : next (opening name attributes) d ≡ good (lines, d')
  pub in_rdf : innermost d.frames ≡ some rdf_rdf

-- it is rdf:Description with this resolved rdf:about, which is the subject of the node that it opens
pub record Describes (a : Bytes) {d d' : Doc} (s : TopStart d d') : Type 0 where
  pub tag : Tag
  pub reads : read_tag s.name s.attributes d ≡ good tag
  pub description : tag.iri ≡ rdf "Description"
  pub about : tag.about ≡ some a
  pub opens : innermost d'.frames ≡ some (node_element (named a) 0)
