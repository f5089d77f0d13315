-- Document 01, "Sizes": all limits, as they hold of what is kept of a document behind each accepted event (theorem: Limits of `theorems`).
use Rattle.std.proofs.Math.Option.{Option, none, some}
use Rattle.std.specs.Prelude.{◌≤◌, length}
use Rattle.spec.specs.Bytes.{Bytes, total, All}
use Rattle.spec.specs.Limits.{most_open_elements, most_bindings, most_name_bytes, most_ids, most_id_bytes, most_held_bytes, most_labels}
use Rattle.spec.specs.NTriples.{Subject, named, blank}
use Rattle.spec.specs.Document.{Object, no_object, node_object, text_object, Value, default, collection, literal, other, Kind, rdf_rdf, wrapper, node_element, property_element, xml_element, Part, ordinary, top_level, alternatives, Frame, Doc, in_scope, held_bytes}

-- "any expanded name, IRI or base 1,024 bytes"
abbrev pub Short : Bytes → Type 0
Short s = length s ≤ most_name_bytes

-- where it is not missing
abbrev pub Short? : Option Bytes → Type 0
Short? none = Unit {0}
Short? (some s) = Short s

-- a label has no limit of its own: its bytes are held
abbrev pub ShortSubject : Subject → Type 0
ShortSubject (named i) = Short i
ShortSubject (blank l) = Unit {0}

-- text has no limit of its own either
abbrev pub ShortObject : Object → Type 0
ShortObject no_object = Unit {0}
ShortObject (node_object s) = ShortSubject s
ShortObject (text_object t) = Unit {0}

abbrev pub ShortValue : Value → Type 0
ShortValue (default d o) = Short? d × ShortObject o
ShortValue (collection cs) = All ShortSubject cs
ShortValue (literal x) = Unit {0}
ShortValue other = Unit {0}

-- a node's rdf:li are counted as labels are
abbrev pub ShortKind : Kind → Type 0
ShortKind rdf_rdf = Unit {0}
ShortKind (wrapper b) = Unit {0}
ShortKind (node_element s li) = ShortSubject s × (li ≤ most_labels)
ShortKind (property_element p v) = ShortSubject p.subject × Short p.iri × Short? p.id × ShortValue v
ShortKind xml_element = Unit {0}

-- the rdf:about that the XMP profile remembers
abbrev pub ShortPart : Part → Type 0
ShortPart ordinary = Unit {0}
ShortPart (top_level a) = Short? a
ShortPart (alternatives b) = Unit {0}

abbrev pub ShortFrame : Frame → Type 0
ShortFrame f = Short? f.own_base × ShortKind f.kind × ShortPart f.part

-- every limit on what is kept between events
pub record Within (d : Doc) : Type 0 where
  pub elements : length d.frames ≤ most_open_elements
  pub bindings : length (in_scope d.frames) ≤ most_bindings
  pub id_count : length d.ids ≤ most_ids
  pub id_bytes : total length d.ids ≤ most_id_bytes
  pub held : held_bytes d ≤ most_held_bytes
  pub labels : d.labels ≤ most_labels
  pub base : Short? d.start_base
  pub every_id : All Short d.ids
  pub every_frame : All ShortFrame d.frames
