-- What a plan does is what the production of the definitions says.
use Rattle.std.specs.Prelude.{ℕ, ◌≡◌, Bool, ◌||◌, not, List}
use Rattle.std.proofs.Math.Path.{refl, ap}
use Rattle.std.proofs.Common.{sym, ◌∙◌}
use Rattle.std.proofs.Math.Bool.{true, false}
use Rattle.std.proofs.lemmas.Bool.{false≢true}
use Rattle.std.proofs.Math.Option.{Option, none, some}
use Rattle.spec.specs.Bytes.{Bytes, or_else, is_some}
use Rattle.spec.specs.NTriples.{named, blank}
use Rattle.spec.specs.Document.{Object, no_object, node_object}
use Rattle.spec.specs.StartTag.{Tag}
use Rattle.spec.specs.Productions.{subject_of}
use Rattle.copy.specs.Copy.{part}
use Rattle.state.specs.Language.{own_of_code}
use Rattle.state.specs.Meaning.{object_of}
use Rattle.state.specs.declared.language.Own.TheVariants.{Unsaid}
use Rattle.start_element.specs.declared.Source.{Source}
use Rattle.start_element.specs.declared.Source.TheVariants.{Missing, Own, Made}
use Rattle.start_element.specs.Element.{text_of, maybe, node_is, word_of, is_absent, is_blank}
use Rattle.start_plan.specs.declared.Given.{Given}
use Rattle.start_plan.specs.Plan.{is_there, subject_in, object_in}

-- what the parts say is what the tag t says
pub record Says (g : Given) (e a : List ℕ) (t : Tag) : Type 0 where
  pub base : maybe g.base e a ≡ t.own_base
  pub tag : own_of_code g.tag a ≡ t.own_tag
  pub node : maybe g.node e a ≡ t.node_id
  pub id : maybe g.id e a ≡ t.id
  pub about : maybe g.about e a ≡ t.about
  pub resource : maybe g.resource e a ≡ t.resource
  pub datatype : maybe g.datatype e a ≡ t.datatype

-- ---- a part, there or missing

there_text : (s : Source) (e a : List ℕ) → is_there s ≡ true → maybe s e a ≡ some (text_of s e a)
unfolding maybe text_of
there_text Missing e a h = absurd (false≢true h)
there_text (Own i n) e a h = refl
there_text (Made i n) e a h = refl

missing_text : (s : Source) (e a : List ℕ) → is_there s ≡ false → maybe s e a ≡ none
unfolding maybe text_of
missing_text Missing e a h = refl
missing_text (Own i n) e a h = absurd (false≢true (sym h))
missing_text (Made i n) e a h = absurd (false≢true (sym h))

pub there_is : (s : Source) (e a : List ℕ) → is_some (maybe s e a) ≡ is_there s
unfolding maybe is_some
there_is Missing e a = refl
there_is (Own i n) e a = refl
there_is (Made i n) e a = refl

-- ---- a node's subject

module _ (e a : List ℕ) (l : Bytes) (made : part a 6144 12 ≡ l) where
  subject_cases : (i b n : Source) → node_is (is_blank (subject_in (record { base = Missing; tag = Unsaid; node = n; id = i; about = b; resource = Missing; datatype = Missing })).what)
      (text_of (subject_in (record { base = Missing; tag = Unsaid; node = n; id = i; about = b; resource = Missing; datatype = Missing })).source e a)
      ≡ subject_of (or_else (maybe i e a) (maybe b e a)) (maybe n e a) l
  unfolding subject_in node_is text_of maybe or_else subject_of
  subject_cases (Own x y) b n = refl
  subject_cases (Made x y) b n = refl
  subject_cases Missing (Own x y) n = refl
  subject_cases Missing (Made x y) n = refl
  subject_cases Missing Missing (Own x y) = refl
  subject_cases Missing Missing (Made x y) = refl
  subject_cases Missing Missing Missing = rw made

  pub node-subject : (g : Given) {t : Tag} → Says g e a t
      → node_is (is_blank (subject_in g).what) (text_of (subject_in g).source e a) ≡ subject_of (or_else t.id t.about) t.node_id l
  unfolding subject_in
  node-subject g s = rw (← s.id, ← s.about, ← s.node) (subject_cases g.id g.about g.node)

-- ---- a default property's object at once

-- rdf:resource, rdf:nodeID, the label l where there are property attributes, or none
unfoldable pub object_by : Option Bytes → Option Bytes → Bool → Bytes → Object
object_by (some i) n t l = node_object (named i)
object_by none (some n) t l = node_object (blank n)
object_by none none true l = node_object (blank l)
object_by none none false l = no_object

module _ (e a : List ℕ) (l : Bytes) (made : part a 6144 12 ≡ l) where
  object_cases : (r n : Source) (t : Bool) → object_of (word_of (object_in (record { base = Missing; tag = Unsaid; node = n; id = Missing; about = Missing; resource = r; datatype = Missing }) t).what)
      (text_of (object_in (record { base = Missing; tag = Unsaid; node = n; id = Missing; about = Missing; resource = r; datatype = Missing }) t).source e a)
      ≡ object_by (maybe r e a) (maybe n e a) t l
  unfolding object_in object_of text_of maybe object_by
  object_cases (Own x y) n t = refl
  object_cases (Made x y) n t = refl
  object_cases Missing (Own x y) t = refl
  object_cases Missing (Made x y) t = refl
  object_cases Missing Missing true = rw made
  object_cases Missing Missing false = refl

  pub object_means : (g : Given) {t : Tag} → Says g e a t → (u : Bool)
      → object_of (word_of (object_in g u).what) (text_of (object_in g u).source e a) ≡ object_by t.resource t.node_id u l
  unfolding object_in
  object_means g s u = rw (← s.resource, ← s.node) (object_cases g.resource g.node u)

-- the same as a subject, where there is one; l is the label made, where one is taken
module _ (e a : List ℕ) (l : Bytes) where
  node_cases : (r n : Source) (t : Bool) → (is_there r || is_there n || t) ≡ true → (is_there r ≡ false → is_there n ≡ false → part a 6144 12 ≡ l)
      → node_is (is_blank (object_in (record { base = Missing; tag = Unsaid; node = n; id = Missing; about = Missing; resource = r; datatype = Missing }) t).what)
      (text_of (object_in (record { base = Missing; tag = Unsaid; node = n; id = Missing; about = Missing; resource = r; datatype = Missing }) t).source e a)
      ≡ subject_of (maybe r e a) (maybe n e a) l
  unfolding object_in node_is text_of maybe subject_of
  node_cases (Own x y) n t h m = refl
  node_cases (Made x y) n t h m = refl
  node_cases Missing (Own x y) t h m = refl
  node_cases Missing (Made x y) t h m = refl
  node_cases Missing Missing true h m = ap blank (m refl refl)
  node_cases Missing Missing false h m = absurd (false≢true h)

  pub object-subject : (g : Given) {t : Tag} → Says g e a t → (u : Bool) → (is_some t.resource || is_some t.node_id || u) ≡ true
      → (is_some t.resource ≡ false → is_some t.node_id ≡ false → part a 6144 12 ≡ l)
      → node_is (is_blank (object_in g u).what) (text_of (object_in g u).source e a) ≡ subject_of t.resource t.node_id l
  unfolding object_in
  object-subject g s u h m =
      let x = ap is_some (sym s.resource) ∙ there_is g.resource e a in
      let y = ap is_some (sym s.node) ∙ there_is g.node e a in
      rw (← s.resource, ← s.node) (node_cases g.resource g.node u (rw (← x, ← y) h) (λ p q. m (x ∙ p) (y ∙ q)))

-- is there one?
object_there : (r n : Source) (t : Bool) → is_absent (object_in (record { base = Missing; tag = Unsaid; node = n; id = Missing; about = Missing; resource = r; datatype = Missing }) t).what
    ≡ not (is_there r || is_there n || t)
unfolding object_in
object_there (Own x y) n t = refl
object_there (Made x y) n t = refl
object_there Missing (Own x y) t = refl
object_there Missing (Made x y) t = refl
object_there Missing Missing true = refl
object_there Missing Missing false = refl

pub no_object_lem : (g : Given) {e a : List ℕ} {t : Tag} → Says g e a t → (u : Bool) → is_absent (object_in g u).what ≡ not (is_some t.resource || is_some t.node_id || u)
unfolding object_in
no_object_lem g {e} {a} s u =
    rw (← s.resource, ← s.node, there_is g.resource e a, there_is g.node e a) (object_there g.resource g.node u)
