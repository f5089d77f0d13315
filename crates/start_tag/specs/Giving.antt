-- Where each thing that a start tag says stands: what was resolved in the area, values in the decoded event.
use Rattle.std.specs.Prelude.{ℕ, ◌+◌, ◌<◌, ◌≤◌, ◌≡◌, refl, Bool, true, false, not, List, [], ◌∷◌, ◌++◌, leb, ltb, length}
use Rattle.std.proofs.Math.Path.{sym, ap}
use Rattle.std.proofs.Common.{◌∙◌, arith, lt-ltb, le-ltb}
use Rattle.std.proofs.lemmas.Bool.{false≢true, not-true}
use Rattle.std.proofs.Math.Option.{Option, none, some}
use Rattle.spec.specs.Bytes.{Bytes, is_some, present}
use Rattle.spec.specs.Limits.{most_name_bytes, most_held_bytes}
use Rattle.spec.proofs.Booleans.{and_left, and_right}
use Rattle.spec.specs.Numbers.{good}
use Rattle.spec.specs.Document.{Doc}
use Rattle.spec.specs.StartTag as S
use Rattle.copy.specs.Copy.{part}
use Rattle.state.specs.Language.{said_if, own_of_code}
use Rattle.state.specs.declared.language.Own as code
use Rattle.state_words.specs.Words.{pick}
use Rattle.state_words.specs.Kept.{Kept}
use Rattle.start_names.specs.Tag.{start_at, size_at, value_size_at, value_at}
use Rattle.start_references.specs.declared.reference.Reference.{Reference}
use Rattle.start_references.specs.declared.reference.Reference.TheVariants as reference
use Rattle.start_references.specs.Reference.{given, is_long, Refers, refers_kept}
use Rattle.start_references.specs.Values.{value_if, value-most}
use Rattle.start_element.specs.declared.Source.{Source}
use Rattle.start_element.specs.declared.Source.TheVariants.{Missing, Own, Made}
use Rattle.start_element.specs.Element.{maybe}
use Rattle.start_plan.specs.declared.Given.{Given}
use Rattle.start_plan.specs.Says.{Says}
use Rattle.start_tag.specs.declared.reading.Tag.{Tag}
use Rattle.start_tag.specs.Made.{short_if, refers_short, tag-says}
use Rattle.start_tag.specs.Tag.{Tells}

abbrev pub made_at : ℕ → Reference → Source
made_at at reference.Missing = Missing
made_at at reference.Bad = Missing
made_at at reference.Long = Missing
made_at at (reference.Made n) = Made at n

unfoldable pub value_at_place : List ℕ → ℕ → ℕ → Source
value_at_place w j k = pick (ltb j k) (Own (start_at w j + size_at w j) (value_size_at w j)) Missing

pub record Gives (t : Tag) (w : List ℕ) (k : ℕ) (g : Given) : Type 0 where
  pub base : g.base ≡ value_at_place w t.base k
  pub tag : g.tag ≡ t.language
  pub node : g.node ≡ value_at_place w t.node k
  pub id : g.id ≡ made_at 0 t.id
  pub about : g.about ≡ made_at 1024 t.about
  pub resource : g.resource ≡ made_at 2048 t.resource
  pub datatype : g.datatype ≡ made_at 3072 t.datatype

-- ---- what they say

-- a reference that is not too long, in an area that kept it
pub made-says : (e a : List ℕ) (at : ℕ) (o : Option Bytes) (r : Reference) → Refers r a at (good o) → is_long r ≡ false → maybe (made_at at r) e a ≡ o
unfolding maybe
made-says e a at o reference.Missing h l = let q : o ≡ none = cc in sym q
made-says e a at o reference.Bad h l = absurd (let z : ◌≡◌ {A = ℕ} 0 1 = cc in omega arith)
made-says e a at o reference.Long h l = absurd (false≢true (sym l))
made-says e a at o (reference.Made n) h l = let q : o ≡ some (part a at n) = cc h.is in sym q

-- is there one? that does not wait on its length
abbrev pub is_missing : Reference → Bool
is_missing reference.Missing = true
is_missing reference.Bad = false
is_missing reference.Long = false
is_missing (reference.Made n) = false

pub made_there : (a : List ℕ) (at : ℕ) (o : Option Bytes) (r : Reference) → Refers r a at (good o) → is_some o ≡ not (is_missing r)
unfolding is_some
made_there a at o reference.Missing h = let q : o ≡ none = cc in rw q
made_there a at o reference.Bad h = absurd (let z : ◌≡◌ {A = ℕ} 0 1 = cc in omega arith)
made_there a at o reference.Long h = let q : o ≡ some h.text = cc h.is in rw q
made_there a at o (reference.Made n) h = let q : o ≡ some (part a at n) = cc h.is in rw q

-- a value, where it stands
pub value-says : (e a w : List ℕ) (j k : ℕ) → maybe (value_at_place w j k) e a ≡ value_if e w k j
unfolding maybe value_at_place value_if value_at given
value-says e a w j k = go (ltb j k)
  where
    go : (t : Bool) → maybe (pick t (Own (start_at w j + size_at w j) (value_size_at w j)) Missing) e a ≡ pick t (some (part e (start_at w j + size_at w j) (value_size_at w j))) none
    go true = refl
    go false = refl

pub value-given : (e w : List ℕ) (k j : ℕ) → is_some (value_if e w k j) ≡ ltb j k
unfolding value_if given is_some
value-given e w k j = go (ltb j k)
  where
    go : (t : Bool) → is_some (pick t (some (value_at e w j)) none) ≡ t
    go true = refl
    go false = refl

-- ---- short, text by text

pub record Shorts (t : S.Tag) : Type 0 where
  pub iri : short_if (some t.iri) ≡ true
  pub id : short_if t.id ≡ true
  pub about : short_if t.about ≡ true
  pub resource : short_if t.resource ≡ true
  pub datatype : short_if t.datatype ≡ true
  pub kind : short_if t.type ≡ true

short_front : (s : Bytes) (l : List Bytes) → S.all_short (s ∷ l) ≡ true → leb (length s) most_name_bytes ≡ true
unfolding S.all_short
short_front s l h = and_left (leb (length s) most_name_bytes) _ h

short_rest : (s : Bytes) (l : List Bytes) → S.all_short (s ∷ l) ≡ true → S.all_short l ≡ true
unfolding S.all_short
short_rest s l h = and_right (leb (length s) most_name_bytes) _ h

short_behind : (k l : List Bytes) → S.all_short (k ++ l) ≡ true → S.all_short l ≡ true
short_behind [] l h = h
short_behind (s ∷ k) l h = short_behind k l (short_rest s (k ++ l) h)

present_front : (o : Option Bytes) (l : List (Option Bytes)) → S.all_short (present (o ∷ l)) ≡ true → short_if o ≡ true
unfolding present short_if
present_front none l h = refl
present_front (some s) l h = short_front s (present l) h

present-rest : (o : Option Bytes) (l : List (Option Bytes)) → S.all_short (present (o ∷ l)) ≡ true → S.all_short (present l) ≡ true
unfolding present
present-rest none l h = h
present-rest (some s) l h = short_rest s (present l) h

pub shorts : (t : S.Tag) → S.is_short t ≡ true → Shorts t
unfolding S.is_short short_if
shorts t h =
    let p0 = short_behind t.names (present (t.own_base ∷ t.id ∷ t.about ∷ t.resource ∷ t.datatype ∷ t.type ∷ [])) (short_rest t.iri _ h) in
    let p1 = present-rest t.own_base (t.id ∷ t.about ∷ t.resource ∷ t.datatype ∷ t.type ∷ []) p0 in
    let p2 = present-rest t.id (t.about ∷ t.resource ∷ t.datatype ∷ t.type ∷ []) p1 in
    let p3 = present-rest t.about (t.resource ∷ t.datatype ∷ t.type ∷ []) p2 in
    let p4 = present-rest t.resource (t.datatype ∷ t.type ∷ []) p3 in
    let p5 = present-rest t.datatype (t.type ∷ []) p4 in
    record {
      iri = short_front t.iri (t.names ++ present (t.own_base ∷ t.id ∷ t.about ∷ t.resource ∷ t.datatype ∷ t.type ∷ [])) h;
      id = present_front t.id (t.about ∷ t.resource ∷ t.datatype ∷ t.type ∷ []) p1;
      about = present_front t.about (t.resource ∷ t.datatype ∷ t.type ∷ []) p2;
      resource = present_front t.resource (t.datatype ∷ t.type ∷ []) p3;
      datatype = present_front t.datatype (t.type ∷ []) p4;
      kind = present_front t.type [] p5;
    }

-- ---- what is given says what the tag says, in an area b that kept what was made for it in a

pub record Keeps (a b : List ℕ) : Type 0 where
  pub before : Kept a b 0 6144
  pub behind : Kept a b 6224 (length a)
  pub same : length b ≡ length a
  pub room : most_held_bytes ≤ length a

-- a reference that is short is there still
pub reference_says : (e : List ℕ) {a b : List ℕ} (at : ℕ) (o : Option Bytes) (r : Reference) → Refers r a at (good o) → Keeps a b → at + 1024 ≤ 6144 → short_if o ≡ true → maybe (made_at at r) e b ≡ o
reference_says e {a} {b} at o r h k l q =
    made-says e b at o r (refers_kept at (good o) r h k.before l k.same) (not-true (is_long r) (sym (refers_short a at o r h) ∙ q))

module _ {t : Tag} {e w : List ℕ} {m k : ℕ} {v cs rs a : List ℕ} {d : Doc} (y : Tells t e w m k v cs rs a d) (short : t.short ≡ true) {b : List ℕ} (kp : Keeps a b) (ev : length e ≤ 32_768) where
  all_short_lem : Shorts y.is
  all_short_lem = shorts y.is (sym y.short ∙ short)

  pub given-says : {g : Given} → Gives t w k g → Says g e b y.is
  unfolding most_held_bytes
  given-says {g} x =
      let z = all_short_lem in
      record {
        base = ap (λ (s : Source). maybe s e b) x.base ∙ (value-says e b w t.base k ∙ sym y.own_base);
        tag = ap (λ (o : code.Own). own_of_code o b) (x.tag ∙ y.said) ∙ (tag-says e b w y.place k ∙ (kept_tag ∙ sym y.own_tag));
        node = ap (λ (s : Source). maybe s e b) x.node ∙ (value-says e b w t.node k ∙ sym y.node_id);
        id = ap (λ (s : Source). maybe s e b) x.id ∙ reference_says e 0 y.is.id t.id y.id kp (omega arith) z.id;
        about = ap (λ (s : Source). maybe s e b) x.about ∙ reference_says e 1024 y.is.about t.about y.about kp (omega arith) z.about;
        resource = ap (λ (s : Source). maybe s e b) x.resource ∙ reference_says e 2048 y.is.resource t.resource y.resource kp (omega arith) z.resource;
        datatype = ap (λ (s : Source). maybe s e b) x.datatype ∙ reference_says e 3072 y.is.datatype t.datatype y.datatype kp (omega arith) z.datatype;
      }
    where
      kept_tag : said_if (ltb y.place k) (part b 6224 (length (value_at e w y.place))) ≡ said_if (ltb y.place k) (part a 6224 (length (value_at e w y.place)))
      kept_tag = ap (said_if (ltb y.place k)) (kp.behind.parts 6224 (length (value_at e w y.place)) (omega arith) (omega (arith, kp.room, value-most e w y.place, ev)))

  -- and so do its rdf:type and its element's IRI
  pub kind-says : maybe (made_at 4096 t.kind) e b ≡ y.is.type
  kind-says = reference_says e 4096 y.is.type t.kind y.kind kp (omega arith) all_short_lem.kind

  pub iri_says : maybe (made_at 5120 t.iri) e b ≡ some y.is.iri
  iri_says = reference_says e 5120 (some y.is.iri) t.iri y.iri kp (omega arith) all_short_lem.iri

-- ---- how the calls come to their answers

pub made_there_at : (at : ℕ) {r : Reference} {n : ℕ} → r ≡ reference.Made n → Made at n ≡ made_at at r
made_there_at at h = rw h

module _ (e w : List ℕ) (j k : ℕ) where
  pub no_value : k ≤ j → Missing ≡ value_at_place w j k
  unfolding value_at_place
  no_value h = rw (le-ltb j k h)

  pub value_there : {a b c : ℕ} → j < k → a ≡ start_at w j → b ≡ size_at w j → c ≡ value_size_at w j → Own (a + b) c ≡ value_at_place w j k
  unfolding value_at_place
  value_there h p q s = rw (lt-ltb j k h, p, q, s)
