-- Demand 3: what happens directly inside an element, over accepted events. An element is told by k, how many elements are open
-- around it.
use Rattle.std.specs.Prelude.{◌≡◌, Bool, false, ◌&&◌, List, [], ◌∷◌, ◌++◌, map, ℕ, suc, ◌+◌, ◌<◌, eqb, length}
use Rattle.std.proofs.Math.Option.{Option, none, some}
use Rattle.spec.specs.Bytes.{Bytes, when◌then◌else◌}
use Rattle.spec.specs.Numbers.{Answer, refuse, good}
use Rattle.spec.specs.Pyx.{Attribute, Event, opening, closing, text, instruction}
use Rattle.spec.specs.Namespaces.{Binding, declared, expand_element}
use Rattle.spec.specs.NTriples.{Subject, Term, node, Triple}
use Rattle.spec.specs.XmlLang.{Own}
use Rattle.spec.specs.Document.{Value, other, Property, Kind, rdf_rdf, wrapper, node_element, property_element, xml_element, Frame, Doc, in_scope}
use Rattle.spec.specs.Productions.{statement, is_li}
use Rattle.spec.specs.RdfXml.{next}
use Rattle.spec.specs.Lists.{After, here, event}

-- ---- elements over events

-- what the innermost open element is
unfoldable pub innermost : List Frame → Option Kind
innermost [] = none
innermost (f ∷ fs) = some f.kind

-- what a start tag says that holds as long as its element is open: name, bindings, own xml:base and xml:lang
abbrev pub Said : Type 0
Said = Bytes × List Binding × Option Bytes × Own

abbrev pub said_of : Frame → Said
said_of f = (f.name, f.bindings, f.own_base, f.own_tag)

unfoldable pub said : List Frame → List Said
said fs = map said_of fs

-- it stays open all the while
abbrev pub StaysOpen : {d₀ d : Doc} {ts : List Triple} → ℕ → After d₀ d ts → Type 0
StaysOpen k here = Unit {0}
StaysOpen k (event before e d' us q) = StaysOpen k before × (k < length d'.frames)

-- an element that is still open: its start tag, and the events inside it so far; the documents before it and now
pub record Begun (d d₂ : Doc) : Type 0 where
  pub name : Bytes
  pub attributes : List Attribute
  pub start_lines : List Triple
  pub first : Doc
  pub starts : next (opening name attributes) d ≡ good (start_lines, first)
  pub inner_lines : List Triple
  pub inside : After first d₂ inner_lines
  pub stays : StaysOpen (length d.frames) inside

-- an element in full; the documents before and behind it
pub record Element (d d' : Doc) : Type 0 where
  pub last : Doc
  pub begun : Begun d last
  pub name : Bytes
  pub end_lines : List Triple
  pub ends : next (closing name) last ≡ good (end_lines, d')
  pub closes : length d'.frames ≡ length d.frames

-- every line that it wrote
unfoldable pub lines_in : {d d' : Doc} → Element d d' → List Triple
lines_in c = c.begun.start_lines ++ (c.begun.inner_lines ++ c.end_lines)

-- ---- its children

-- the subject of a node element
unfoldable pub node_subject : Kind → List Subject
node_subject rdf_rdf = []
node_subject (wrapper b) = []
node_subject (node_element s li) = s ∷ []
node_subject (property_element p v) = []
node_subject xml_element = []

-- the subject of the node element that an event closes directly inside it
unfoldable pub child_of : ℕ → Event → List Frame → List Subject
child_of k (opening n as') fs = []
child_of k (closing n) [] = []
child_of k (closing n) (f ∷ fs) = when eqb (length fs) (suc k) then node_subject f.kind else []
child_of k (text s) fs = []
child_of k instruction fs = []

unfoldable pub children_over : {d₀ d : Doc} {ts : List Triple} → ℕ → After d₀ d ts → List Subject
children_over k here = []
children_over k (event {d = d} before e d' us q) = children_over k before ++ child_of k e d.frames

-- the subjects of the node elements that closed directly inside it, in order
unfoldable pub children : {d d₂ : Doc} → Begun d d₂ → List Subject
children {d} b = children_over (length d.frames) b.inside

-- ---- its rdf:li

-- is a name good, and rdf:li?
unfoldable pub names_li : Answer Bytes → Bool
names_li (refuse n) = false
names_li (good i) = is_li i

-- is a start tag's expanded name rdf:li?
unfoldable pub is_li_tag : Bytes → List Attribute → List Frame → Bool
is_li_tag n as' fs = names_li (expand_element (declared as' ++ in_scope fs) n)

-- 1 for the start tag of an rdf:li directly inside it
unfoldable pub li_of : ℕ → Event → List Frame → ℕ
li_of k (opening n as') fs = when eqb (length fs) (suc k) && is_li_tag n as' fs then 1 else 0
li_of k (closing n) fs = 0
li_of k (text s) fs = 0
li_of k instruction fs = 0

unfoldable pub lis_over : {d₀ d : Doc} {ts : List Triple} → ℕ → After d₀ d ts → ℕ
lis_over k here = 0
lis_over k (event {d = d} before e d' us q) = lis_over k before + li_of k e d.frames

-- how many rdf:li opened directly inside it
unfoldable pub lis : {d d₂ : Doc} → Begun d d₂ → ℕ
lis {d} b = lis_over (length d.frames) b.inside

-- ---- its statement

-- a start tag, by its lines and the document behind it, began this property: it is the innermost open element, or, with parseType
-- Resource, its statement is written and its object's node is
pub data Begins (p : Property) (us : List Triple) (d : Doc) : Type 0 where
  is_open_lem : (v : Value) → innermost d.frames ≡ some (property_element p v) → Begins p us d
  is_written : (x : Subject) → us ≡ statement p (node x) → innermost d.frames ≡ some (node_element x 0) → Begins p us d

-- where an element writes the statement of this property: at its end tag, or with parseType Resource at its start tag; with a
-- parseType that document 01 calls other, nowhere
pub data Writes {d d' : Doc} (p : Property) (c : Element d d') : Type 0 where
  at_start : (x : Subject) → c.begun.start_lines ≡ statement p (node x) → innermost c.begun.first.frames ≡ some (node_element x 0) → Writes p c
  at_end : (ws : List Triple) (o : Term) → c.end_lines ≡ ws ++ statement p o → Writes p c
  nowhere : c.end_lines ≡ [] → innermost c.begun.first.frames ≡ some (property_element p other) → Writes p c
