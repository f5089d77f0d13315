-- The lines of a start tag that is carried out, from its plan, from the frame of the element around it and from the language in force there.
use Rattle.std.specs.Prelude.{ℕ, zero, suc, ◌-◌, ◌*◌, ◌≤◌, ◌≡◌, refl, Bool, true, false, not, List, [], ◌++◌, eqb, length}
use Rattle.std.proofs.Common.{sym, ◌∙◌, arith, eq-eqb, ne_eqb}
use Rattle.spec.specs.Bytes.{Bytes}
use Rattle.spec.specs.NTriples.{Subject, named, blank, node, Triple, write}
use Rattle.spec.specs.Document.{Doc}
use Rattle.spec.specs.Productions.{attribute_lines, type_line, statement}
use Rattle.copy.specs.Copy.{part}
use Rattle.state_words.specs.Parts.{MAIN, ID, BLANK, FRAME}
use Rattle.state_words.specs.declared.Frame.{Frame}
use Rattle.state_words.specs.Words.{pick, load_frame_lem, no_frame}
use Rattle.state.specs.declared.Registers.{Registers}
use Rattle.state.specs.Meaning.{at, has, span, node_of, subject_of, subject_below, elements_of}
use Rattle.state.specs.Valid.{Valid}
use Rattle.spec.specs.XmlLang.{Language}
use Rattle.state.specs.Language.{language_of, tag_in_force, in_force_by}
use Rattle.state.specs.declared.Span.{Span}
use Rattle.std.specs.declared.option.Option as std
use Rattle.state_stack.specs.Calls.{top_frame}
use Rattle.state_inner.specs.Calls.{language_in}
use Rattle.state_inner.specs.Laws.{language_read}
use Rattle.writer.specs.Put.{Put, put_as, put_none}
use Rattle.ntriples.specs.declared.Node.{Node}
use Rattle.ntriples.specs.declared.Term.{Term}
use Rattle.ntriples.specs.Terms as T
use Rattle.ntriples.specs.Terms.{id_of as given}
use Rattle.start_attributes.specs.Properties.{properties_from}
use Rattle.start_element.specs.declared.Source.{Source}
use Rattle.start_element.specs.declared.Source.TheVariants.{Missing, Own, Made}
use Rattle.start_element.specs.Element.{is_blank, text_of, maybe, node_is}
use Rattle.start_plan.specs.declared.Lines.TheVariants.{Nothing, Object, Resource}
use Rattle.start_plan.specs.declared.Lines.TheVariants as lines-kind
use Rattle.start_plan.specs.declared.Start.{Start}
use Rattle.start_plan.specs.Plan.{is_there}
use Rattle.start_plan.specs.Goes.{told, main_of, object_of, property_of, lines_by}

-- ---- which lines

-- the language in force: its own, or else that around it
abbrev pub language_by : Start → std.Option Span → List ℕ → List ℕ → Language
language_by x l w a = language_of (tag_in_force x.plan.parts.tag l w a)

-- of its node, of its object; of its node as the object of the statement about s
abbrev pub node_lines : Start → std.Option Span → List ℕ → List ℕ → List ℕ → ℕ → List ℕ → List ℕ → List ℕ → List Triple
node_lines x l w e v k a cs rs =
    (attribute_lines (main_of x e a) (language_by x l w a) (properties_from e v w cs rs 0 k) ++ type_line (main_of x e a) (maybe x.kind e a))
    ++ type_line (main_of x e a) (given x.named (text_of x.iri e a))

abbrev pub object_lines : Start → std.Option Span → List ℕ → List ℕ → List ℕ → ℕ → List ℕ → List ℕ → List ℕ → List Triple
object_lines x l w e v k a cs rs =
    attribute_lines (object_of x e a) (language_by x l w a) (properties_from e v w cs rs 0 k) ++ type_line (object_of x e a) (maybe x.kind e a)

abbrev pub resource_lines : Start → Subject → List ℕ → List ℕ → List Triple
resource_lines x s e a = statement (property_of x e a s) (node (main_of x e a))

-- by the plan, in the element of frame f, where language l is in force
unfoldable pub lines_of : Start → Frame → std.Option Span → List ℕ → List ℕ → List ℕ → ℕ → List ℕ → List ℕ → List ℕ → List Triple
lines_of x f l w e v k a cs rs =
    told x.plan.lines (main_of x e a) (object_of x e a) (language_by x l w a) (properties_from e v w cs rs 0 k) (maybe x.kind e a)
    (given x.named (text_of x.iri e a)) (property_of x e a (subject_of f w))

-- ---- nodes: a label where b, else an IRI

node_is_lem : (b : Bool) {n : Node} → n ≡ T.node_for b → (s : Bytes) → T.subject_of n s ≡ node_is b s
unfolding T.subject_of T.node_for node_is
node_is_lem true e s = rw e
node_is_lem false e s = rw e

-- the subject of a frame, whose mark is h
marked : (h : ℕ) (s : Bytes) → node_is (not (eqb h 0)) s ≡ node_of h s
unfolding node_is node_of
marked h s = go (eqb h 0)
  where
    go : (t : Bool) → pick (not t) (blank s) (named s) ≡ pick t (named s) (blank s)
    go true = refl
    go false = refl

-- ---- a part, there or missing

given-text : (s : Source) (e a : List ℕ) → given (is_there s) (text_of s e a) ≡ maybe s e a
unfolding given text_of maybe
given-text Missing e a = refl
given-text (Own i n) e a = refl
given-text (Made i n) e a = refl

-- ---- what the calls write, from what they were lent

part_is_lem : (s : Source) (e a : List ℕ) {z : Bytes} {h : Bool} → h ≡ is_there s → z ≡ text_of s e a → given h z ≡ maybe s e a
part_is_lem s e a o q = rw (o, q) (given-text s e a)

module _ {on : Bool} {d f : List ℕ} {from to : ℕ} (x : Start) (l : std.Option Span) (w e v : List ℕ) (k : ℕ) (a cs rs : List ℕ) {y z : Bytes} {h : Bool} {n : Node} {s : Bytes}
    (j : y ≡ tag_in_force x.plan.parts.tag l w a) (o : h ≡ is_there x.kind) (q : z ≡ text_of x.kind e a) where
  pub node-told : {u : Bytes} → n ≡ T.node_for x.plan.parts.blank → s ≡ text_of x.plan.parts.main e a → u ≡ text_of x.iri e a
      → Put on d f from to (write ((attribute_lines (T.subject_of n s) (language_of y) (properties_from e v w cs rs 0 k) ++ type_line (T.subject_of n s) (given h z)) ++ type_line (T.subject_of n s) (given x.named u)))
      → Put on d f from to (write (node_lines x l w e v k a cs rs))
  node-told b c m p = put_as p (rw (node_is_lem x.plan.parts.blank b s, c, m, j, part_is_lem x.kind e a o q))

  pub object-told : n ≡ T.node_for (is_blank x.plan.parts.what) → s ≡ text_of x.plan.parts.object e a
      → Put on d f from to (write (attribute_lines (T.subject_of n s) (language_of y) (properties_from e v w cs rs 0 k) ++ type_line (T.subject_of n s) (given h z)))
      → Put on d f from to (write (object_lines x l w e v k a cs rs))
  object-told b c p = put_as p (rw (node_is_lem (is_blank x.plan.parts.what) b s, c, j, part_is_lem x.kind e a o q))

-- the bytes from a to b, as they are lent
pub span-lent : {r : List ℕ} {from n : ℕ} (w : List ℕ) (a b : ℕ) → r ≡ part w from n → from ≡ a → n ≡ b - a → r ≡ span w a b
unfolding span
span-lent w a b e p q = e ∙ rw (p, q)

-- r is the frame of the node around
pub resource_told : {on : Bool} {d f : List ℕ} {from to : ℕ} (x : Start) (r : Frame) (w e a : List ℕ) {h : Bool} {i s p o : Bytes} {n own : Node} {t : Term}
    → n ≡ T.node_for (not (eqb (has r BLANK) 0)) → s ≡ span w (at r MAIN) (at r ID) → h ≡ is_there x.id → i ≡ text_of x.id e a → p ≡ text_of x.property e a
    → own ≡ T.node_for x.plan.parts.blank → t ≡ T.as_term own → o ≡ text_of x.plan.parts.main e a
    → Put on d f from to (write (statement (T.property_of h i (T.subject_of n s) p) (T.term_of t o [])))
    → Put on d f from to (write (resource_lines x (subject_of r w) e a))
unfolding T.property_of subject_of
resource_told x r w e a {s = s} {o = o} {own = own} b c j q u v t m y =
    put_as y (rw (node_is_lem (not (eqb (has r BLANK) 0)) b s, marked (has r BLANK) s, c, part_is_lem x.id e a j q, u, t, T.as_term_lem own o [], node_is_lem x.plan.parts.blank v o, m))

-- ---- by the plan

module _ (x : Start) (r : Frame) (l : std.Option Span) (w e v : List ℕ) (k : ℕ) (a cs rs : List ℕ) where
  pub no_lines : x.plan.lines ≡ Nothing → write (lines_of x r l w e v k a cs rs) ≡ []
  unfolding lines_of told write
  no_lines h = rw h

  pub told-nothing : {on : Bool} {d : List ℕ} → x.plan.lines ≡ Nothing → Put on d d 0 0 (write (lines_of x r l w e v k a cs rs))
  told-nothing h = put_as (put_none (omega arith)) (sym (no_lines h))

  module _ {on : Bool} {d f : List ℕ} {from to : ℕ} where
    pub told-node : x.plan.lines ≡ lines-kind.Node → Put on d f from to (write (node_lines x l w e v k a cs rs)) → Put on d f from to (write (lines_of x r l w e v k a cs rs))
    unfolding lines_of told
    told-node h p = rw h p

    pub told-object : x.plan.lines ≡ Object → Put on d f from to (write (object_lines x l w e v k a cs rs)) → Put on d f from to (write (lines_of x r l w e v k a cs rs))
    unfolding lines_of told
    told-object h p = rw h p

    pub told_resource : x.plan.lines ≡ Resource → Put on d f from to (write (resource_lines x (subject_of r w) e a)) → Put on d f from to (write (lines_of x r l w e v k a cs rs))
    unfolding lines_of told
    told_resource h p = rw h p

-- ---- they are those of the definitions

-- the subject of the element around, from the frame on top
top_none : (w : List ℕ) → subject_of no_frame w ≡ named []
unfolding subject_of node_of span part
top_none w = refl

below_top : (r : Registers) (fs w : List ℕ) → r.counts.depth * FRAME ≤ length fs → subject_of (top_frame r fs) w ≡ subject_below fs w r.counts.depth
unfolding top_frame subject_below
below_top r fs w h = go r.counts.depth refl
  where
    go : (n : ℕ) → r.counts.depth ≡ n → subject_of (top_frame r fs) w ≡ subject_below fs w r.counts.depth
    go zero z = rw (eq-eqb r.counts.depth 0 z, z) (top_none w)
    go (suc n) z = let q : r.counts.depth - 1 ≡ n = omega arith in rw (ne_eqb r.counts.depth 0 (λ i. omega arith), q, load_frame_lem fs n (omega arith), z)

pub lines_are : (x : Start) (d : Doc) {r : Registers} {fs bs is w : List ℕ} (e v : List ℕ) (k : ℕ) (a cs rs : List ℕ) → Valid r fs bs is w → d.frames ≡ elements_of r fs bs is w
    → lines_of x (top_frame r fs) (language_in r fs) w e v k a cs rs ≡ lines_by x d (subject_below fs w r.counts.depth) w e v k a cs rs
unfolding lines_of
lines_are x d {r = r} {fs} {w = w} e v k a cs rs y f =
    let deep : r.counts.depth * FRAME ≤ length fs = omega (arith, y.frame_words, y.deep) in
    rw (below_top r fs w deep, in_force_by x.plan.parts.tag (language_in r fs) w a, language_read y, ← f)
