-- Document 01, "Order in step": start tags (refusals 6 to 15, 18 and 19, and the limits on names and IRIs).
use Rattle.std.specs.Prelude.{Bool, true, false, ◌&&◌, not, List, [], ◌∷◌, ◌++◌, ℕ, suc, eqb, leb, length}
use Rattle.std.proofs.Math.Option.{Option, none, some}
use Rattle.spec.specs.Bytes.{Bytes, when◌then◌else◌, is_empty, ◌>>=◌, ◌>>◌, require◌or◌, each}
use Rattle.spec.specs.Numbers.{number, Answer, refuse, good}
use Rattle.spec.specs.declared.Refusal.TheVariants.{NotWellFormed, OverLimit, NoNamespace, ProfileBroken, Reserved}
use Rattle.spec.specs.Limits.{most_open_elements, most_attributes, most_bindings}
use Rattle.spec.specs.Pyx.{Attribute}
use Rattle.spec.specs.Pyx as P
use Rattle.spec.specs.Namespaces.{declared, all_legal, is_known, known_attribute, repeats_expanded, repeats_written}
use Rattle.spec.specs.NTriples.{Triple}
use Rattle.spec.specs.Document.{Kind, rdf_rdf, wrapper, node_element, property_element, xml_element, Part, ordinary, Frame, Doc, with_frames, with_kind, with_part, in_scope, Place, outside, nodes, nodes_or_text, xml, properties, place_in}
use Rattle.spec.specs.XmlLang.{unsaid}
use Rattle.spec.specs.StartTag.{Tag, read_tag, is_short}
use Rattle.spec.specs.declared.Mode.{Mode}
use Rattle.spec.specs.Xmp.{starts_wrapper, open_wrapper, keeps, new_part, noted}
use Rattle.spec.specs.Xmp as M
use Rattle.spec.specs.Productions.{Opened, open_node, open_property, open_root, is_li}
use Rattle.spec.specs.Productions as O
use Rattle.spec.specs.XmlLiteral.{start_tag_xml, add_xml}
use Rattle.spec.specs.XmlLiteral as X

-- the lines of an event, and the document behind it
abbrev pub Step : Type 0
Step = List Triple × Doc

-- the root, once
unfoldable pub is_second_root : Doc → Bool
is_second_root d = d.rooted && is_empty d.frames

-- counts (7): open elements, attributes, bindings declared by open elements
unfoldable pub counts_fit : List Attribute → List Frame → Bool
counts_fit as' fs =
    leb (suc (length fs)) most_open_elements && (leb (length as') most_attributes && leb (length (declared as' ++ in_scope fs)) most_bindings)

-- in Literal content elements are copied
unfoldable pub copy_element : Bytes → List Attribute → Doc → Answer Step
copy_element n as' d = do
  let scope = declared as' ++ in_scope d.frames
  require is_known scope n or NoNamespace
  each (known_attribute scope) as'
  let f : Frame = record { name = n; bindings = declared as'; own_base = none; own_tag = unsaid; kind = xml_element; part = ordinary }
  let d' = add_xml (start_tag_xml n as') d
  good ([], with_frames (f ∷ d'.frames) d')

-- an rdf:li is counted in the node around it, and rdf:RDF in the wrapper
unfoldable pub counted : Bytes → Kind → Kind
counted i rdf_rdf = rdf_rdf
counted i (wrapper b) = wrapper true
counted i (node_element s li) = node_element s (when is_li i then suc li else li)
counted i (property_element p v) = property_element p v
counted i xml_element = xml_element

-- and where the profile remembers it, noted
unfoldable pub count_li : Bytes → (Part → Part) → List Frame → List Frame
count_li i h [] = []
count_li i h (f ∷ fs) = with_part (h f.part) (with_kind (counted i f.kind) f) ∷ fs

-- an rdf:ID is entered with the acceptance
unfoldable pub enter : Option Bytes → List Bytes → List Bytes
enter none ids = ids
enter (some i) ids = i ∷ ids

-- the document behind a start tag outside Literal content
unfoldable pub opened : Tag → Doc → Opened → Step
opened t d o = (
  o.lines,
  record {
    mode = d.mode;
    start_base = d.start_base;
    frames =
        record {
          name = t.name;
          bindings = t.bindings;
          own_base = t.own_base;
          own_tag = t.own_tag;
          kind = o.kind;
          part = new_part d.mode.xmp (place_in d.frames) t.iri;
        } ∷ count_li t.iri (noted d.mode.xmp t) d.frames;
    rooted = true;
    labels = o.labels;
    ids = enter t.id d.ids;
  },
)

-- the rules that the mode of a document adds for a start tag (19)
unfoldable pub mode_rules : Mode → List Frame → Tag → Answer (Unit {0})
mode_rules m fs t = require keeps m.xmp fs t or ProfileBroken

-- the order of a production's refusals and these: 14 comes first, all others after them
unfoldable pub under_rules : Answer (Unit {0}) → Answer Opened → Answer Opened
under_rules (good _) a = a
under_rules (refuse r) (refuse q) = when eqb (number q) (number Reserved) then refuse q else refuse r
under_rules (refuse r) (good o) = refuse r

-- outside Literal content, by a production
unfoldable pub open_element : (Tag → ℕ → Answer Opened) → Bytes → List Attribute → Doc → Answer Step
open_element production n as' d = do
  t ← read_tag n as' d
  o ← under_rules (mode_rules d.mode d.frames t) (production t d.labels)
  require is_short t or OverLimit
  good (opened t d o)

-- by what the start tag stands in
unfoldable pub open_in : Place → Bytes → List Attribute → Doc → Answer Step
open_in outside n as' d = when starts_wrapper d.mode.xmp n as' d.frames then open_wrapper n as' d else open_element open_root n as' d
open_in nodes n as' d = open_element open_node n as' d
open_in nodes_or_text n as' d = open_element open_node n as' d
open_in (properties s li) n as' d = open_element (λ t. open_property t s li) n as' d
open_in xml n as' d = copy_element n as' d

-- does it stand in Literal content?
unfoldable pub is_xml : Place → Bool
is_xml outside = false
is_xml nodes = false
is_xml nodes_or_text = false
is_xml xml = true
is_xml (properties s li) = false

-- expanded names outside Literal content; as written there
unfoldable pub repeated : Place → List Attribute → Doc → Bool
repeated p as' d = when is_xml p then repeats_written as' else repeats_expanded (declared as' ++ in_scope d.frames) as'

-- 6, counts (7), then by place
unfoldable pub on_opening : Bytes → List Attribute → Doc → Answer Step
on_opening n as' d = do
  let p = place_in d.frames
  require not (is_second_root d) && (all_legal (declared as') && not (repeated p as' d)) or NotWellFormed
  require counts_fit as' d.frames or OverLimit
  open_in p n as' d

unfoldable pub all : Unit {0}
unfolding P.all O.all X.all M.all is_second_root counts_fit copy_element counted count_li enter opened mode_rules under_rules open_element open_in is_xml repeated on_opening
all = tt
