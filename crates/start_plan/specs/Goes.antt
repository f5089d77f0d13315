-- When a start tag may be carried out as planned: what was judged of it.
use Rattle.std.specs.Prelude.{ℕ, ◌≡◌, true, List, [], ◌∷◌, ◌++◌, length, take}
use Rattle.std.proofs.Math.Option.{Option}
use Rattle.spec.specs.Bytes.{Bytes}
use Rattle.spec.specs.Numbers.{good}
use Rattle.spec.specs.NTriples.{Subject, node, Triple}
use Rattle.spec.specs.Document.{Part, Doc, Property, language_in_force}
use Rattle.spec.specs.Productions.{attribute_lines, type_line, statement}
use Rattle.spec.specs.Opening.{count_li, enter, on_opening}
use Rattle.state_ids.specs.Ids.{room_for}
use Rattle.spec.specs.XmlLang.{Language, in_force}
use Rattle.state.specs.Language.{own_of_code, is_said}
use Rattle.state.specs.declared.Registers.{Registers}
use Rattle.state.specs.Meaning.{subject_below}
use Rattle.start_names.specs.Tag.{attributes_of}
use Rattle.ntriples.specs.Terms.{id_of as given}
use Rattle.start_attributes.specs.Properties.{properties_from}
use Rattle.start_element.specs.Element.{is_blank, text_of, maybe, node_is, new_element}
use Rattle.start_element.specs.Laws.{Granted, CountedBy, NotedBy, noting}
use Rattle.start_plan.specs.declared.Lines.{Lines}
use Rattle.start_plan.specs.declared.Lines.TheVariants.{Nothing, Node, Object, Resource}
use Rattle.start_plan.specs.declared.Start.{Start}
use Rattle.start_plan.specs.Plan.{is_there}

-- the lines of a start tag: of its own node m, with its element's type; of its object o; the statement of property p, whose object its node is.
-- l is the language in force, ty its rdf:type
unfoldable pub told : Lines → Subject → Subject → Language → List (Bytes × Bytes) → Option Bytes → Option Bytes → Property → List Triple
told Nothing m o l as' ty el p = []
told Node m o l as' ty el p = (attribute_lines m l as' ++ type_line m ty) ++ type_line m el
told Object m o l as' ty el p = attribute_lines o l as' ++ type_line o ty
told Resource m o l as' ty el p = statement p (node m)

-- its node, and its object
abbrev pub main_of : Start → List ℕ → List ℕ → Subject
main_of x e a = node_is x.plan.parts.blank (text_of x.plan.parts.main e a)

abbrev pub object_of : Start → List ℕ → List ℕ → Subject
object_of x e a = node_is (is_blank x.plan.parts.what) (text_of x.plan.parts.object e a)

-- the property that it is, of the subject s
abbrev pub property_of : Start → List ℕ → List ℕ → Subject → Property
property_of x e a s = record { subject = s; iri = text_of x.property e a; id = maybe x.id e a }

-- its lines by the plan, about or in the subject s, in a document d whose state has the work store w; cs, rs: the classes and roles of its attributes
abbrev pub lines_by : Start → Doc → Subject → List ℕ → List ℕ → List ℕ → ℕ → List ℕ → List ℕ → List ℕ → List Triple
lines_by x d s w e v k a cs rs =
    told x.plan.lines (main_of x e a) (object_of x e a) (in_force (own_of_code x.plan.parts.tag a) (language_in_force d.frames)) (properties_from e v w cs rs 0 k) (maybe x.kind e a)
    (given x.named (text_of x.iri e a)) (property_of x e a s)

-- the document behind it by the plan: its element has the IRI i, and h is noted in the one around it
abbrev pub behind_by : Start → Doc → Bytes → (Part → Part) → Subject → List ℕ → List ℕ → ℕ → ℕ → List ℕ → Doc
behind_by x d i h s e v m k a =
    record {
      mode = d.mode;
      start_base = d.start_base;
      frames = new_element e v m k a x.plan.parts s ∷ count_li i h d.frames;
      rooted = true;
      labels = x.plan.labels;
      ids = enter (maybe x.id e a) d.ids;
    }

-- a decoded start tag e, v, m, k, with what was made for it in a, in a document d of the state r, fs, bs, w: the definitions do what is planned
pub record Goes (x : Start) (d : Doc) (r : Registers) (fs bs w e v : List ℕ) (m k : ℕ) (a cs rs : List ℕ) (count used : ℕ) : Type 0 where
  pub iri : Bytes
  pub notes : Part → Part
  pub steps : on_opening (take m e) (attributes_of e v k) d
      ≡ good (lines_by x d (subject_below fs w r.counts.depth) w e v k a cs rs, behind_by x d iri notes (subject_below fs w r.counts.depth) e v m k a)
  pub counted : CountedBy r fs iri x.li
  pub noted : NotedBy notes (noting r.mode.xmp x.li (text_of x.plan.parts.main e a) (is_said x.plan.parts.tag)) d.frames
  pub granted : Granted r fs bs w e v m k a x.plan.parts x.li x.plan.labels
  pub room : is_there x.id ≡ true → room_for count used (length (text_of x.id e a)) ≡ true
