-- The rules that the XMP profile adds for a start tag: as the code tests them, from the frame on top, and that they are those of `spec`.
use Prim.Native.Nat.{ℕ, zero, suc, ◌+◌, ◌-◌, ◌<◌, ◌≤◌}
use Rattle.std.specs.Prelude.{◌≡◌, Bool, ◌&&◌, ◌||◌, List, ltb, length, drop}
use Rattle.std.proofs.Math.Path.{refl, sym, ap}
use Rattle.std.proofs.Common.{◌∙◌, length-take, eqb-true, eq-eqb, ne_eqb, lt-ltb, le-ltb}
use Rattle.std.proofs.Math.Bool.{true, false, not}
use Rattle.std.proofs.lemmas.Bool.{false≢true}
use Rattle.std.proofs.Math.Option.{Option, none, some}
use native.Mathlib.Omega.{arith}
use Rattle.std.proofs.Math.Dec.{eqb}
use Rattle.spec.specs.Bytes.{Bytes, ascii, same, is_some}
use Rattle.spec.specs.Numbers.{good}
use Rattle.spec.specs.NTriples.{Subject}
use Rattle.spec.specs.Document.{Frame as Element, ordinary, top_level, alternatives, Doc}
use Rattle.spec.specs.Rdf.{rdf}
use Rattle.spec.specs.StartTag as S
use Rattle.spec.specs.Productions.{is_li}
use Rattle.spec.specs.Xmp as X
use Rattle.spec.proofs.Bytes.{same-lengths}
use Rattle.copy.specs.Copy.{part}
use Rattle.state_words.specs.Parts.{TAIL, END, PART}
use Rattle.state_words.specs.declared.Kind.{Kind}
use Rattle.state_words.specs.declared.Kind.TheVariants.{Rdf, NodeElt, PropertyElt, ParseTypeCollectionPropertyElt, ParseTypeLiteralPropertyElt, ParseTypeOtherPropertyElt, Wrapper}
use Rattle.state_words.specs.declared.Frame.{Frame}
use Rattle.state_words.specs.Words.{pick, frame_at, load_frame, load_frame_lem}
use Rattle.spec.specs.XmlLang.{carries}
use Rattle.state.specs.Language.{is_said, carries_if}
use Rattle.start_element.specs.declared.Pending.{Pending}
use Rattle.start_element.specs.declared.Pending.TheVariants as pending
use Rattle.start_tag.specs.Made.{said_there}
use Rattle.state.specs.declared.Registers.{Registers}
use Rattle.state.specs.Meaning.{at, has, count, span, what_of, part_of, element_of, frames_of, inners_of, elements_of, doc_of}
use Rattle.state.specs.Valid.{noted_by, noted_of, noted_in, Valid}
use Rattle.state_stack.specs.Calls.{same_kind}
use Rattle.start_names.specs.Tag.{value_at}
use Rattle.start_references.specs.declared.reference.Reference.{Reference}
use Rattle.start_references.specs.declared.reference.Reference.TheVariants.{Missing, Bad, Long, Made}
use Rattle.start_references.specs.Reference.{given, Refers}
use Rattle.start_references.specs.Values.{value_if}
use Rattle.start_tag.specs.declared.reading.Tag.{Tag}
use Rattle.start_tag.specs.Tag.{Tells}
use Rattle.start_tag.specs.Giving.{is_missing, made_there, value-given}
use Rattle.start_tag.specs.Names.{iri_text, rdf-name, description-name, li-name}

-- does a start tag keep the rules of the profile of its document?
pub record Keeps (b : Bool) (t : Tag) (r : Registers) (fs w e v : List ℕ) (k : ℕ) (a : List ℕ) : Type 0 where
  pub is : {bs is : List ℕ} {m : ℕ} {cs rs : List ℕ} (ids : List Bytes) → Valid r fs bs is w → r.counts.inner ≡ 0 → (y : Tells t e v m k w cs rs a (doc_of r fs bs is w ids))
      → b ≡ X.keeps r.mode.xmp (elements_of r fs bs is w) y.is

-- what a new rdf:RDF is in a packet, and a new node element of the name i
unfoldable pub rdf_part : Bool → Pending
rdf_part false = pending.Absent
rdf_part true = pending.Awaited

unfoldable pub node_part : Bool → Bytes → Pending
node_part false i = pending.Absent
node_part true i = pick (same i (rdf "Alt")) pending.Awaited pending.Absent

-- ---- as the code tests them: i is the element's name, o whether it has xml:lang

-- no child so far?
abbrev pub awaits : Frame → Bool
awaits f = eqb (has f PART) 1

-- the rdf:about that rdf:RDF has noted
abbrev pub noted_about : Frame → List ℕ → Bytes
noted_about f w = span w (at f TAIL) (at f END)

-- s: the one that is noted, but for the first
unfoldable pub same_about_by : Reference → Bool → Bytes → List ℕ → Bool
same_about_by Missing first s a = false
same_about_by Bad first s a = false
same_about_by Long first s a = first
same_about_by (Made n) first s a = pick first true (same (part a 1024 n) s)

unfoldable pub top_level_by : Frame → List ℕ → Bytes → Reference → List ℕ → Bool
top_level_by f w i ab a = pick (eqb (has f PART) 0) true (same i (rdf "Description") && same_about_by ab (awaits f) (noted_about f w) a)

unfoldable pub carries_by : Frame → Bytes → Bool → Bool
carries_by f i o = pick (eqb (has f PART) 3) (pick o true (not (is_li i))) true

unfoldable pub its_rdf_by : Frame → Bytes → Bool
its_rdf_by f i = pick (eqb (count f) 0) (same i (rdf "RDF")) false

unfoldable pub kind_by : Kind → Frame → List ℕ → Bytes → Reference → List ℕ → Bool → Bool
kind_by Rdf f w i ab a o = top_level_by f w i ab a
kind_by NodeElt f w i ab a o = carries_by f i o
kind_by PropertyElt f w i ab a o = true
kind_by ParseTypeCollectionPropertyElt f w i ab a o = true
kind_by ParseTypeLiteralPropertyElt f w i ab a o = true
kind_by ParseTypeOtherPropertyElt f w i ab a o = true
kind_by Wrapper f w i ab a o = its_rdf_by f i

-- the wrapper without its rdf:RDF so far
unfoldable pub is_free : Frame → Bool
is_free f = same_kind f.kind Wrapper && eqb (count f) 0

-- d elements are open: none, or the wrapper, which has no rdf:RDF so far
unfoldable pub awaits_rdf : ℕ → List ℕ → Bool
awaits_rdf d fs = pick (eqb d 0) true (is_free (load_frame fs (d - 1)))

unfoldable pub around_by : ℕ → List ℕ → List ℕ → Bytes → Reference → List ℕ → Bool → Bool
around_by d fs w i ab a o = pick (eqb d 0) (same i (rdf "RDF")) (kind_by (load_frame fs (d - 1)).kind (load_frame fs (d - 1)) w i ab a o)

unfoldable pub none_out_by : Tag → List ℕ → List ℕ → ℕ → Bool
none_out_by t e v k = is_missing t.id && (not (ltb t.node k) && (is_missing t.datatype && X.resource_at_most (value_if e v k t.parse)))

-- ---- how the code comes to its answers

pub is_taken : (f : Frame) → is_free f ≡ false → (same_kind f.kind Wrapper && eqb (count f) 0) ≡ false
unfolding is_free
is_taken f h = h

module _ (first : Bool) (s : Bytes) (a : List ℕ) {ab : Reference} where
  pub about_missing : ab ≡ Missing → false ≡ same_about_by ab first s a
  unfolding same_about_by
  about_missing h = rw h

  pub about_bad : ab ≡ Bad → false ≡ same_about_by ab first s a
  unfolding same_about_by
  about_bad h = rw h

  pub about-long : ab ≡ Long → first ≡ same_about_by ab first s a
  unfolding same_about_by
  about-long h = rw h

  pub about_first : {n : ℕ} → ab ≡ Made n → first ≡ true → true ≡ same_about_by ab first s a
  unfolding same_about_by
  about_first h q = rw (h, q)

-- x and y: both texts as they are read
pub about-other : (f : Frame) (w a : List ℕ) {ab : Reference} {n from to size : ℕ} {x y : Bytes} {b : Bool} → ab ≡ Made n → awaits f ≡ false → from ≡ at f TAIL → to ≡ at f END → size ≡ to - from
    → x ≡ part a 1024 n → y ≡ part w from size → b ≡ same x y → b ≡ same_about_by ab (awaits f) (noted_about f w) a
unfolding same_about_by span
about-other f w a {n = n} h q p₁ p₂ p₃ p₄ p₅ e =
    let y-is : _ ≡ part w (at f TAIL) (at f END - at f TAIL) = p₅ ∙ rw (p₃, p₂, p₁) in
    e ∙ rw (p₄, y-is, h, q)

module _ (f : Frame) (w : List ℕ) (i : Bytes) (ab : Reference) (a : List ℕ) where
  pub top_ordinary : has f PART ≡ 0 → true ≡ top_level_by f w i ab a
  unfolding top_level_by
  top_ordinary h = rw (eq-eqb (has f PART) 0 h)

  module _ (h : has f PART ≡ 0 → ⊥) where
    pub top_other : same i (rdf "Description") ≡ false → false ≡ top_level_by f w i ab a
    unfolding top_level_by
    top_other q = rw (ne_eqb (has f PART) 0 h, q)

    pub top_described : {b : Bool} → same i (rdf "Description") ≡ true → b ≡ same_about_by ab (awaits f) (noted_about f w) a → b ≡ top_level_by f w i ab a
    unfolding top_level_by
    top_described q e = e ∙ rw (ne_eqb (has f PART) 0 h, q)

module _ (f : Frame) (i : Bytes) (o : Bool) where
  pub carries_none : (has f PART ≡ 3 → ⊥) → true ≡ carries_by f i o
  unfolding carries_by
  carries_none h = rw (ne_eqb (has f PART) 3 h)

  module _ (h : has f PART ≡ 3) where
    pub carries-tag : o ≡ true → true ≡ carries_by f i o
    unfolding carries_by
    carries-tag q = rw (eq-eqb (has f PART) 3 h, q)

    pub carries_no_tag : {b : Bool} → o ≡ false → b ≡ is_li i → not b ≡ carries_by f i o
    unfolding carries_by
    carries_no_tag q e = ap not e ∙ rw (eq-eqb (has f PART) 3 h, q)

-- the arms of `rdf_part` and `node_part`
module _ {p : Bool} where
  pub rdf_ordinary : p ≡ false → pending.Absent ≡ rdf_part p
  unfolding rdf_part
  rdf_ordinary h = rw h

  pub rdf-awaits : p ≡ true → pending.Awaited ≡ rdf_part p
  unfolding rdf_part
  rdf-awaits h = rw h

  module _ (i : Bytes) where
    pub node_ordinary : p ≡ false → pending.Absent ≡ node_part p i
    unfolding node_part
    node_ordinary h = rw h

    pub node-other : p ≡ true → same i (rdf "Alt") ≡ false → pending.Absent ≡ node_part p i
    unfolding node_part
    node-other h q = rw (h, q)

    pub node-awaits : p ≡ true → same i (rdf "Alt") ≡ true → pending.Awaited ≡ node_part p i
    unfolding node_part
    node-awaits h q = rw (h, q)

-- the arms of `keeps_kind`
module _ (f : Frame) (w : List ℕ) (i : Bytes) (ab : Reference) (a : List ℕ) (o : Bool) {q : Kind} where
  pub by_rdf : {b : Bool} → q ≡ Rdf → b ≡ top_level_by f w i ab a → b ≡ kind_by q f w i ab a o
  unfolding kind_by
  by_rdf h e = e ∙ rw h

  pub by_node : {b : Bool} → q ≡ NodeElt → b ≡ carries_by f i o → b ≡ kind_by q f w i ab a o
  unfolding kind_by
  by_node h e = e ∙ rw h

  pub by_property : q ≡ PropertyElt → true ≡ kind_by q f w i ab a o
  unfolding kind_by
  by_property h = rw h

  pub by_collection : q ≡ ParseTypeCollectionPropertyElt → true ≡ kind_by q f w i ab a o
  unfolding kind_by
  by_collection h = rw h

  pub by_literal : q ≡ ParseTypeLiteralPropertyElt → true ≡ kind_by q f w i ab a o
  unfolding kind_by
  by_literal h = rw h

  pub by_other : q ≡ ParseTypeOtherPropertyElt → true ≡ kind_by q f w i ab a o
  unfolding kind_by
  by_other h = rw h

  pub by_wrapper : q ≡ Wrapper → (same_kind q Wrapper && eqb (count f) 0) ≡ false → false ≡ kind_by q f w i ab a o
  unfolding kind_by its_rdf_by
  by_wrapper h e = let g : eqb (count f) 0 ≡ false = rw h at e in rw (h, g)

-- in the wrapper without its rdf:RDF
module _ (f : Frame) (w : List ℕ) (i : Bytes) (ab : Reference) (a : List ℕ) (o : Bool) where
  free-kind : (q : Kind) → (same_kind q Wrapper && eqb (count f) 0) ≡ true → kind_by q f w i ab a o ≡ same i (rdf "RDF")
  unfolding kind_by its_rdf_by
  free-kind Rdf h = absurd (false≢true h)
  free-kind NodeElt h = absurd (false≢true h)
  free-kind PropertyElt h = absurd (false≢true h)
  free-kind ParseTypeCollectionPropertyElt h = absurd (false≢true h)
  free-kind ParseTypeLiteralPropertyElt h = absurd (false≢true h)
  free-kind ParseTypeOtherPropertyElt h = absurd (false≢true h)
  free-kind Wrapper h = rw h

-- `awaits_rdf`
module _ (d : ℕ) (fs : List ℕ) where
  pub awaits-root : d ≡ 0 → true ≡ awaits_rdf d fs
  unfolding awaits_rdf
  awaits-root h = rw (eq-eqb d 0 h)

  pub awaits_first : {f : Frame} {x : Bool} → (d ≡ 0 → ⊥) → f ≡ load_frame fs (d - 1) → x ≡ same_kind f.kind Wrapper → (x && eqb (count f) 0) ≡ awaits_rdf d fs
  unfolding awaits_rdf is_free
  awaits_first {f} h e q = rw q (ap is_free e ∙ rw (ne_eqb d 0 h))

  pub inside : awaits_rdf d fs ≡ false → 0 < d
  unfolding awaits_rdf
  inside h = go d h
    where
      go : (n : ℕ) → pick (eqb n 0) true (is_free (load_frame fs (n - 1))) ≡ false → 0 < n
      go zero z = absurd (false≢true (sym z))
      go (suc n) z = omega arith

  pub taken-frame : {f : Frame} → awaits_rdf d fs ≡ false → f ≡ load_frame fs (d - 1) → is_free f ≡ false
  unfolding awaits_rdf
  taken-frame h e = ap is_free e ∙ (rw (ne_eqb d 0 (λ z. omega (arith, inside h))) at h)

module _ (d : ℕ) (fs w : List ℕ) (i : Bytes) (ab : Reference) (a : List ℕ) (o : Bool) {b : Bool} where
  pub around_awaited : awaits_rdf d fs ≡ true → b ≡ same i (rdf "RDF") → b ≡ around_by d fs w i ab a o
  unfolding around_by awaits_rdf is_free
  around_awaited h e = e ∙ go (eqb d 0) h
    where
      g : Frame
      g = load_frame fs (d - 1)

      go : (x : Bool) → pick x true (same_kind g.kind Wrapper && eqb (count g) 0) ≡ true → same i (rdf "RDF") ≡ pick x (same i (rdf "RDF")) (kind_by g.kind g w i ab a o)
      go true q = refl
      go false q = sym (free-kind g w i ab a o g.kind q)

  pub around-frame : {f : Frame} → awaits_rdf d fs ≡ false → f ≡ load_frame fs (d - 1) → b ≡ kind_by f.kind f w i ab a o → b ≡ around_by d fs w i ab a o
  unfolding around_by
  around-frame {f} h e q = q ∙ (ap (λ (g : Frame). kind_by g.kind g w i ab a o) e ∙ rw (ne_eqb d 0 (λ z. omega (arith, inside d fs h))))

-- rdf:parseType, at place j of k
module _ (e v : List ℕ) (k j : ℕ) where
  no_type : k ≤ j → X.resource_at_most (value_if e v k j) ≡ true
  unfolding value_if given X.resource_at_most
  no_type h = rw (le-ltb j k h)

  one_type : j < k → X.resource_at_most (value_if e v k j) ≡ same (value_at e v j) (ascii "Resource")
  unfolding value_if given X.resource_at_most
  one_type h = rw (lt-ltb j k h)

-- what is out, the first found
first_out : {p : Bool} (q : Bool) → p ≡ false → (p && q) ≡ false
first_out q h = rw h

next_out : {p q x : Bool} → p ≡ true → q ≡ x → (p && q) ≡ x
next_out h i = rw (h, i)

module _ (t : Tag) (e v : List ℕ) (k : ℕ) where
  pub id_out : is_missing t.id ≡ false → true ≡ not (none_out_by t e v k)
  unfolding none_out_by
  id_out h = sym (ap not (first_out (not (ltb t.node k) && (is_missing t.datatype && X.resource_at_most (value_if e v k t.parse))) h))

  module _ (id : is_missing t.id ≡ true) where
    pub node_out : t.node < k → true ≡ not (none_out_by t e v k)
    unfolding none_out_by
    node_out h = sym (ap not (next_out id (first_out (is_missing t.datatype && X.resource_at_most (value_if e v k t.parse)) (ap not (lt-ltb t.node k h)))))

    module _ (node : k ≤ t.node) where
      rest : {x : Bool} → (is_missing t.datatype && X.resource_at_most (value_if e v k t.parse)) ≡ x → not x ≡ not (none_out_by t e v k)
      unfolding none_out_by
      rest j = sym (ap not (next_out id (next_out (ap not (le-ltb t.node k node)) j)))

      pub datatype_out : is_missing t.datatype ≡ false → true ≡ not (none_out_by t e v k)
      datatype_out h = rest (first_out (X.resource_at_most (value_if e v k t.parse)) h)

      module _ (typed : is_missing t.datatype ≡ true) where
        pub none_out : k ≤ t.parse → false ≡ not (none_out_by t e v k)
        none_out h = rest (next_out typed (no_type e v k t.parse h))

        pub parse_out : {b : Bool} {s : Bytes} → t.parse < k → s ≡ value_at e v t.parse → b ≡ same s (ascii "Resource") → not b ≡ not (none_out_by t e v k)
        parse_out h p q = rest (next_out typed (one_type e v k t.parse h ∙ (ap (λ (x : Bytes). same x (ascii "Resource")) (sym p) ∙ sym q)))

-- ---- that they are those of `spec`

and-true : (b : Bool) → (b && true) ≡ b
and-true true = refl
and-true false = refl

pub and-false : (b : Bool) → (b && false) ≡ false
and-false true = refl
and-false false = refl

not-not : (b : Bool) → not (not b) ≡ b
not-not true = refl
not-not false = refl

no_twice : {p : Bool} (q : Bool) → p ≡ not q → q ≡ not p
no_twice q h = sym (ap not h ∙ not-not q)

pub part-few : (s : List ℕ) (at n : ℕ) → length (part s at n) ≤ n
unfolding part
part-few s at n = omega (arith, length-take n (drop at s))

-- an rdf:about that is longer than an IRI may be is not the one that is noted
about_means : (a : List ℕ) (o : Option Bytes) (ab : Reference) → Refers ab a 1024 (good o) → (first : Bool) (s : Bytes) → length s ≤ 1024
    → same_about_by ab first s a ≡ X.same_about (pick first none (some s)) o
unfolding same_about_by X.same_about
about_means a o Missing h first s l = let q : o ≡ none = cc in rw q
about_means a o Bad h first s l = absurd (let z : ◌≡◌ {A = ℕ} 0 1 = cc in omega arith)
about_means a o Long h true s l = let q : o ≡ some h.text = cc h.is in rw q
about_means a o Long h false s l = let q : o ≡ some h.text = cc h.is in rw q (sym (same-lengths h.text s λ e. omega (arith, h.long)))
about_means a o (Made n) h true s l = let q : o ≡ some (part a 1024 n) = cc h.is in rw q
about_means a o (Made n) h false s l = let q : o ≡ some (part a 1024 n) = cc h.is in rw q

-- what a tag says, as far as the rules look at it
record Seen (t : S.Tag) (i : Bytes) (ab : Reference) (a : List ℕ) (o : Bool) : Type 0 where
  root : same i (rdf "RDF") ≡ same t.iri (rdf "RDF")
  described : same i (rdf "Description") ≡ same t.iri (rdf "Description")
  item : is_li i ≡ same t.iri (rdf "li")
  about : Refers ab a 1024 (good t.about)
  tagged : o ≡ carries t.own_tag

-- rdf:RDF: g says that it is none of a packet, p what it has noted
part_top : (t : S.Tag) (g : Bool) (p : Option Bytes) {d x : Bool} → d ≡ same t.iri (rdf "Description") → x ≡ X.same_about p t.about
    → pick g true (d && x) ≡ X.keeps_part (pick g ordinary (top_level p)) t
unfolding X.keeps_part X.is_top_level
part_top t true p h q = refl
part_top t false p h q = rw (h, q)

-- a node: n is what it is in a packet, l whether this is an rdf:li
part_alternatives : (t : S.Tag) (n : ℕ) {l o : Bool} → l ≡ same t.iri (rdf "li") → o ≡ carries t.own_tag
    → pick (eqb n 3) (pick o true (not l)) true ≡ X.keeps_part (pick (eqb n 0) ordinary (alternatives (pick (eqb n 1) none (some (eqb n 3))))) t
unfolding X.keeps_part X.carries_too
part_alternatives t n {l} {o} h q = by_word (eqb n 0) refl (eqb n 1) refl (eqb n 3) refl
  where
    either : (l o : Bool) → pick o true (not l) ≡ (not l || o)
    either true true = refl
    either true false = refl
    either false true = refl
    either false false = refl

    by_word : (x : Bool) → eqb n 0 ≡ x → (y : Bool) → eqb n 1 ≡ y → (z : Bool) → eqb n 3 ≡ z
        → pick (eqb n 3) (pick o true (not l)) true ≡ X.keeps_part (pick (eqb n 0) ordinary (alternatives (pick (eqb n 1) none (some (eqb n 3))))) t
    by_word true e y f true g = absurd (omega (arith, eqb-true n 0 e, eqb-true n 3 g))
    by_word true e y f false g = rw (e, g)
    by_word false e true f true g = absurd (omega (arith, eqb-true n 1 f, eqb-true n 3 g))
    by_word false e true f false g = rw (e, f, g)
    by_word false e false f true g = rw (e, f, g) (either l o ∙ rw (h, q))
    by_word false e false f false g = rw (e, f, g)

wrapper-rdf : (t : S.Tag) (g : Bool) {d : Bool} → d ≡ same t.iri (rdf "RDF") → pick g d false ≡ X.is_its_rdf (not g) t
unfolding X.is_its_rdf
wrapper-rdf t true h = h ∙ sym (and-true (same t.iri (rdf "RDF")))
wrapper-rdf t false h = sym (and-false (same t.iri (rdf "RDF")))

module _ {t : S.Tag} {i : Bytes} {ab : Reference} {a : List ℕ} {o : Bool} (s : Seen t i ab a o) where
  kind_means : (q : Kind) (f : Frame) (w : List ℕ) (u : Subject) → noted_by q f ≤ 1024 → kind_by q f w i ab a o ≡ X.keeps_kind (what_of q f w u) (part_of q f w) t
  unfolding kind_by top_level_by carries_by its_rdf_by what_of part_of X.keeps_kind noted_by span
  kind_means Rdf f w u l =
      part_top t (eqb (has f PART) 0) (pick (awaits f) none (some (noted_about f w))) s.described
      (about_means a t.about ab s.about (awaits f) (noted_about f w) (omega (arith, part-few w (at f TAIL) (at f END - at f TAIL))))
  kind_means NodeElt f w u l = part_alternatives t (has f PART) s.item s.tagged
  kind_means PropertyElt f w u l = refl
  kind_means ParseTypeCollectionPropertyElt f w u l = refl
  kind_means ParseTypeLiteralPropertyElt f w u l = refl
  kind_means ParseTypeOtherPropertyElt f w u l = refl
  kind_means Wrapper f w u l = wrapper-rdf t (eqb (count f) 0) s.root

  module _ {r : Registers} {fs bs is w : List ℕ} (x : Valid r fs bs is w) (z : r.counts.inner ≡ 0) where
    in_nothing : r.counts.depth ≡ 0 → same i (rdf "RDF") ≡ X.keeps_around (elements_of r fs bs is w) t
    unfolding X.keeps_around X.is_its_rdf elements_of inners_of frames_of
    in_nothing d = rw (z, d) (s.root ∙ sym (and-true (same t.iri (rdf "RDF"))))

    few : (n : ℕ) → r.counts.depth ≡ suc n → noted_by (frame_at fs n).kind (frame_at fs n) ≤ 1024
    unfolding noted_in
    few n d = let h : r.store.noted ≡ noted_in fs n + noted_of (frame_at fs n) = rw d at x.noted in omega (arith, x.few)

    in_frame : (n : ℕ) → r.counts.depth ≡ suc n → kind_by (frame_at fs n).kind (frame_at fs n) w i ab a o ≡ X.keeps_around (elements_of r fs bs is w) t
    unfolding X.keeps_around elements_of inners_of frames_of element_of
    in_frame n d = rw (z, d) (kind_means (frame_at fs n).kind (frame_at fs n) w _ (few n d))

    around_means : around_by r.counts.depth fs w i ab a o ≡ X.keeps_around (elements_of r fs bs is w) t
    unfolding around_by
    around_means = go r.counts.depth refl
      where
        go : (d : ℕ) → r.counts.depth ≡ d → around_by r.counts.depth fs w i ab a o ≡ X.keeps_around (elements_of r fs bs is w) t
        go zero q = rw (eq-eqb r.counts.depth 0 q) (in_nothing q)
        go (suc d) q =
            let e : r.counts.depth - 1 ≡ d = omega arith in
            rw (ne_eqb r.counts.depth 0 (λ z. omega arith), e, load_frame_lem fs d (omega (arith, x.frame_words, x.deep))) (in_frame d q)

-- ---- a tag that was read

module _ {t : Tag} {e v : List ℕ} {m k : ℕ} {w cs rs a : List ℕ} {d : Doc} (y : Tells t e v m k w cs rs a d) where
  seen : Seen y.is (iri_text t.iri a) t.about a (is_said t.language)
  unfolding is_li
  seen =
      record {
        root = rdf-name a y.is.iri t.iri y.iri;
        described = description-name a y.is.iri t.iri y.iri;
        item = li-name a y.is.iri t.iri y.iri;
        about = y.about;
        tagged = ap is_said y.said ∙ (said_there e v y.place k ∙ sym (ap carries y.own_tag ∙ carries_if (ltb y.place k) (part a 6224 (length (value_at e v y.place)))));
      }

  none_means : none_out_by t e v k ≡ X.has_none_out y.is
  unfolding none_out_by X.has_none_out
  none_means =
      join (no_twice (is_missing t.id) (made_there a 0 y.is.id t.id y.id))
      (sym (ap is_some y.node_id ∙ value-given e v k t.node))
      (no_twice (is_missing t.datatype) (made_there a 3072 y.is.datatype t.datatype y.datatype))
      (sym (ap X.resource_at_most y.parse_type))
    where
      join : {p₁ p₂ q₁ q₂ s₁ s₂ u₁ u₂ : Bool} → p₁ ≡ p₂ → q₁ ≡ q₂ → s₁ ≡ s₂ → u₁ ≡ u₂ → (p₁ && (not q₁ && (s₁ && u₁))) ≡ (p₂ && (not q₂ && (s₂ && u₂)))
      join g h i j = rw (g, h, i, j)

-- ---- the arms of `keeps`

module _ {p : Bool} (es : List Element) (s : S.Tag) where
  in_base_lem : p ≡ false → true ≡ X.keeps p es s
  unfolding X.keeps
  in_base_lem h = rw h

  one_out : p ≡ true → X.has_none_out s ≡ false → false ≡ X.keeps p es s
  unfolding X.keeps
  one_out h q = rw (h, q) (sym (and-false (X.keeps_around es s)))

  in_packet : {b : Bool} → p ≡ true → X.has_none_out s ≡ true → b ≡ X.keeps_around es s → b ≡ X.keeps p es s
  unfolding X.keeps
  in_packet h q e = e ∙ rw (h, q) (sym (and-true (X.keeps_around es s)))

module _ {t : Tag} {r : Registers} {fs w e v : List ℕ} {k : ℕ} {a : List ℕ} where
  pub keeps-base : r.mode.xmp ≡ false → Keeps true t r fs w e v k a
  keeps-base h = record { is = λ ids x z y. in_base_lem (elements_of r fs _ _ w) y.is h }

  -- b: is one out?
  module _ {b : Bool} (h : r.mode.xmp ≡ true) (n : b ≡ not (none_out_by t e v k)) where
    pub keeps_not : b ≡ true → Keeps false t r fs w e v k a
    keeps_not q = record { is = λ ids x z y. one_out (elements_of r fs _ _ w) y.is h (sym (none_means y) ∙ (no_twice (none_out_by t e v k) n ∙ ap not q)) }

    pub keeps_so : {c : Bool} {i : Bytes} → b ≡ false → i ≡ iri_text t.iri a → c ≡ around_by r.counts.depth fs w i t.about a (is_said t.language) → Keeps c t r fs w e v k a
    keeps_so {c} {i} q j l =
        record {
          is = λ ids x z y.
              in_packet (elements_of r fs _ _ w) y.is h (sym (none_means y) ∙ (no_twice (none_out_by t e v k) n ∙ ap not q))
              (l ∙ (ap (λ (u : Bytes). around_by r.counts.depth fs w u t.about a (is_said t.language)) j ∙ around_means (seen y) x z));
        }
