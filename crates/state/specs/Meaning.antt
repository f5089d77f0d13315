-- What registers, tables and work store mean: a document of `spec`.
use Rattle.std.specs.Prelude.{ℕ, zero, suc, ◌+◌, ◌-◌, ◌*◌, not, List, [], ◌∷◌, ◌++◌, eqb, get_or}
use Rattle.std.proofs.Math.Option.{Option, none, some}
use Rattle.spec.specs.Bytes.{Bytes}
use Rattle.spec.specs.Namespaces.{Binding}
use Rattle.spec.specs.XmlLang.{unsaid}
use Rattle.spec.specs.NTriples.{Subject, named, blank}
use Rattle.spec.specs.Document.{Object, no_object, node_object, text_object, default, collection, literal, other, Property, Doc}
use Rattle.spec.specs.Document.{Kind as What, rdf_rdf, wrapper, node_element, property_element, xml_element, Part, ordinary, top_level, alternatives, Frame as Element}
use Rattle.copy.specs.Copy.{part}
use Rattle.state_words.specs.Parts.{NAME, BINDINGS, BASE, TAG, MAIN, ID, DATATYPE, TAIL, END, BASED, TAGGED, BLANK, IDENTIFIED, TYPED, PENDING, PART, COUNT, FIRST}
use Rattle.state_words.specs.declared.Kind.{Kind}
use Rattle.state_words.specs.declared.Kind.TheVariants.{Rdf, NodeElt, PropertyElt, ParseTypeCollectionPropertyElt, ParseTypeLiteralPropertyElt, ParseTypeOtherPropertyElt, Wrapper}
use Rattle.state_words.specs.declared.Frame.{Frame}
use Rattle.state_words.specs.declared.Row.{Row}
use Rattle.state_words.specs.Words.{pick, frame_at, row_at}
use Rattle.state.specs.declared.Registers.{Registers}
use Rattle.state.specs.Language.{own_in}

-- ---- the parts of a frame

-- where its parts start: name, bindings, base, tag, main, ID, type, tail; where the last one ends
abbrev pub at : Frame → ℕ → ℕ
at f k = get_or f.at k 0

-- is there a base, a tag; is the main part a blank node; is there an rdf:ID, a datatype; what the tail is; a count; its first binding
abbrev pub has : Frame → ℕ → ℕ
has f k = get_or f.has k 0

-- rdf:li of a node, children of a Collection, rdf:RDF of the wrapper
abbrev pub count : Frame → ℕ
count f = has f COUNT

-- the first of its bindings in their table
abbrev pub first : Frame → ℕ
first f = has f FIRST

-- the bytes from a up to b
unfoldable pub span : List ℕ → ℕ → ℕ → Bytes
span w a b = part w a (b - a)

-- a part that may be missing
unfoldable pub optional : ℕ → Bytes → Option Bytes
optional h s = pick (eqb h 0) none (some s)

-- 0 for a named node
unfoldable pub node_of : ℕ → Bytes → Subject
node_of h s = pick (eqb h 0) (named s) (blank s)

-- the object so far: none, a named node, a blank one, or else a text
unfoldable pub object_of : ℕ → Bytes → Object
object_of h s = pick (eqb h 0) no_object (pick (eqb h 1) (node_object (named s)) (pick (eqb h 2) (node_object (blank s)) (text_object s)))

-- ---- the children of a Collection: behind each one's bytes stand four with its size, little end first, and whether it is a blank node

unfoldable pub child_size : List ℕ → ℕ → ℕ
child_size w e = get_or (part w (e - 4) 4) 0 0 + 256 * get_or (part w (e - 4) 4) 1 0

-- where the child that ends at e starts
abbrev pub child_from : List ℕ → ℕ → ℕ
child_from w e = e - 4 - child_size w e

unfoldable pub child_of : List ℕ → ℕ → Subject
child_of w e = node_of (get_or (part w (e - 4) 4) 2 0) (part w (child_from w e) (child_size w e))

-- n children, the last of which ends at e: last first
unfoldable pub children_of : List ℕ → ℕ → ℕ → List Subject
children_of w zero e = []
children_of w (suc n) e = child_of w e ∷ children_of w n (child_from w e)

-- ---- bindings

unfoldable pub binding_of : List ℕ → Row → Binding
binding_of w r = (part w r.at r.name, part w (r.at + r.name) r.more)

-- n bindings from b on, the last of them first
unfoldable pub bindings_of : List ℕ → List ℕ → ℕ → ℕ → List Binding
bindings_of bs w b zero = []
bindings_of bs w b (suc n) = binding_of w (row_at bs (b + n)) ∷ bindings_of bs w b n

-- ---- open elements outside Literal content

unfoldable pub subject_of : Frame → List ℕ → Subject
subject_of f w = node_of (has f BLANK) (span w (at f MAIN) (at f ID))

unfoldable pub property_of : Frame → List ℕ → Subject → Property
property_of f w s = record { subject = s; iri = span w (at f MAIN) (at f ID); id = optional (has f IDENTIFIED) (span w (at f ID) (at f DATATYPE)) }

-- by the kind; s is the subject of the element around it
unfoldable pub what_of : Kind → Frame → List ℕ → Subject → What
what_of Rdf f w s = rdf_rdf
what_of NodeElt f w s = node_element (subject_of f w) (count f)
what_of PropertyElt f w s =
    property_element (property_of f w s) (default (optional (has f TYPED) (span w (at f DATATYPE) (at f TAIL))) (object_of (has f PENDING) (span w (at f TAIL) (at f END))))
what_of ParseTypeCollectionPropertyElt f w s = property_element (property_of f w s) (collection (children_of w (count f) (at f END)))
what_of ParseTypeLiteralPropertyElt f w s = property_element (property_of f w s) (literal (span w (at f TAIL) (at f END)))
what_of ParseTypeOtherPropertyElt f w s = property_element (property_of f w s) other
what_of Wrapper f w s = wrapper (not (eqb (count f) 0))

-- what is remembered of a packet: 0 nothing; 1 no child so far; of an rdf:Alt else 3 where its first rdf:li carries xml:lang
unfoldable pub part_of : Kind → Frame → List ℕ → Part
part_of Rdf f w = pick (eqb (has f PART) 0) ordinary (top_level (pick (eqb (has f PART) 1) none (some (span w (at f TAIL) (at f END)))))
part_of NodeElt f w = pick (eqb (has f PART) 0) ordinary (alternatives (pick (eqb (has f PART) 1) none (some (eqb (has f PART) 3))))
part_of PropertyElt f w = ordinary
part_of ParseTypeCollectionPropertyElt f w = ordinary
part_of ParseTypeLiteralPropertyElt f w = ordinary
part_of ParseTypeOtherPropertyElt f w = ordinary
part_of Wrapper f w = ordinary

unfoldable pub element_of : Frame → List Binding → List ℕ → Subject → Element
element_of f bound w s =
    record {
      name = span w (at f NAME) (at f BINDINGS);
      bindings = bound;
      own_base = optional (has f BASED) (span w (at f BASE) (at f TAG));
      own_tag = own_in (has f TAGGED) (span w (at f TAG) (at f MAIN));
      kind = what_of f.kind f w s;
      part = part_of f.kind f w;
    }

-- the subject of the element around element n
unfoldable pub subject_below : List ℕ → List ℕ → ℕ → Subject
subject_below fs w zero = named []
subject_below fs w (suc n) = subject_of (frame_at fs n) w

-- n elements, whose bindings are the first b: innermost first
unfoldable pub frames_of : List ℕ → List ℕ → List ℕ → ℕ → ℕ → List Element
frames_of fs bs w zero b = []
frames_of fs bs w (suc n) b =
    element_of (frame_at fs n) (bindings_of bs w (first (frame_at fs n)) (b - first (frame_at fs n))) w (subject_below fs w n)
    ∷ frames_of fs bs w n (first (frame_at fs n))

-- ---- open elements inside Literal content

unfoldable pub inner_of : Row → List Binding → List ℕ → Element
inner_of r bound w = record { name = part w r.at r.name; bindings = bound; own_base = none; own_tag = unsaid; kind = xml_element; part = ordinary }

-- n elements, whose bindings end before b: innermost first
unfoldable pub inners_of : List ℕ → List ℕ → List ℕ → ℕ → ℕ → List Element
inners_of is bs w zero b = []
inners_of is bs w (suc n) b =
    inner_of (row_at is n) (bindings_of bs w (row_at is n).more (b - (row_at is n).more)) w ∷ inners_of is bs w n (row_at is n).more

-- ---- the document

-- the start base
unfoldable pub start_of : Registers → List ℕ → Option Bytes
start_of r w = pick r.flags.based (some (part w 0 r.store.base)) none

-- the open elements, innermost first
unfoldable pub elements_of : Registers → List ℕ → List ℕ → List ℕ → List ℕ → List Element
elements_of r fs bs is w = inners_of is bs w r.counts.inner r.counts.bindings ++ frames_of fs bs w r.counts.depth r.counts.outer

-- registers, frames, bindings, inner elements, work store; the rdf:IDs are kept elsewhere
unfoldable pub doc_of : Registers → List ℕ → List ℕ → List ℕ → List ℕ → List Bytes → Doc
doc_of r fs bs is w ids =
    record {
      mode = r.mode;
      start_base = start_of r w;
      frames = elements_of r fs bs is w;
      rooted = r.flags.rooted;
      labels = r.counts.labels;
      ids = ids;
    }
