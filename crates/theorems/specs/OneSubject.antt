-- Document 02, request 1: "Top-level elements are rdf:Description and all have one resolved rdf:about". So all top-level
-- elements of a packet have one subject.
use Rattle.std.proofs.Math.Path.{◌≡◌, ap, subst}
use Rattle.std.specs.Prelude.{refl, ◌⊎◌, Bool, false, ◌&&◌, List, [], ◌∷◌, ℕ}
use Rattle.std.proofs.Common.{sym, ◌∙◌, inl, inr, arith}
use Rattle.std.proofs.Math.Bool.{true, not, true≢false}
use Rattle.std.proofs.lemmas.Bool.{false≢true}
use Rattle.std.proofs.Math.Option.{Option, none, some, some-injective, none-ne-some}
use Rattle.spec.specs.Bytes.{Bytes, same, is_empty, or_else, All}
use Rattle.spec.specs.Numbers.{good}
use Rattle.spec.specs.Pyx.{Attribute, opening}
use Rattle.spec.specs.Rdf.{rdf}
use Rattle.spec.specs.NTriples.{Subject, named, Triple}
use Rattle.spec.specs.declared.Mode.{Mode}
use Rattle.spec.specs.Modes.{xmp_mode}
use Rattle.spec.specs.Document.{Value, default, collection, literal, other, Kind, rdf_rdf, wrapper, node_element, property_element, xml_element, Part, top_level, Frame, Doc, fresh, with_frames, with_labels, with_kind, with_part, Place, outside, nodes, in_kind, in_value, place_in, change_value, on_value}
use Rattle.spec.specs.StartTag.{Tag, read_tag}
use Rattle.spec.specs.Productions.{Opened, open_node, subject_of}
use Rattle.spec.specs.Xmp.{wrapped, is_its_rdf, same_about, is_top_level, has_none_out, keeps_part, keeps_kind, keeps_around, keeps, with_child, noted}
use Rattle.spec.specs.Opening.{Step, is_second_root, counted, count_li, opened, open_element, open_in, on_opening}
use Rattle.spec.specs.RdfXml.{next, on_event}
use Rattle.spec.specs.Lists.{After}
use Rattle.spec.specs.Inside.{innermost}
use Rattle.spec.specs.Nesting.{Stands, Nested}
use Rattle.spec.specs.Packets.{Remembers, Parts, TopStart, Describes}
use Rattle.spec.proofs.Booleans.{and_left, and_right, and_both}
use Rattle.spec.proofs.Bytes.{same_true}
use Rattle.theorems.specs.Always.{Always, always_bind, always_after, always_require, always_self, always_good}
use Rattle.theorems.specs.Rules.{rules_kept}
use Rattle.theorems.specs.Frames.{always_next}
use Rattle.theorems.specs.Changes.{Change, stays, takes_text_lem, takes_xml_lem, copies, opens, wraps, ends_root, ends_wrapper, ends_node, ends_property, ends_xml, all_changed, all_but, always_holds}
use Rattle.theorems.specs.Nesting.{always_mode, always_nested, produced}
use Rattle.theorems.specs.Parts.{always_parts, wrapper_place, NoRdf, one-rdf}
use Rattle.theorems.specs.NoneOut.{kept_without}
use Rattle.theorems.specs.HadRdf.{HadRdf, Had, always_had}

-- ---- the start tag of a top-level element

-- what was read of an accepted start tag in rdf:RDF
record Started (n : Bytes) (as' : List Attribute) (d : Doc) (s : Step) : Type 0 where
  tag : Tag
  new : Opened
  reads : read_tag n as' d ≡ good tag
  kept : keeps d.mode.xmp d.frames tag ≡ true
  made : open_node tag d.labels ≡ good new
  behind : s.1 ≡ (opened tag d new).1

started_element : (n : Bytes) (as' : List Attribute) (d : Doc) → Always (Started n as' d) (open_element open_node n as' d)
unfolding open_element
started_element n as' d =
    always_bind (λ t. read_tag n as' d ≡ good t) (Started n as' d) _ _ (always_self (read_tag n as' d)) λ t r.
    always_bind (λ o. (open_node t d.labels ≡ good o) × (keeps d.mode.xmp d.frames t ≡ true))
    (Started n as' d) _ _ (rules_kept d.mode d.frames t (open_node t d.labels)) λ o q.
    always_require (Started n as' d) _ _ _ λ s.
    record { tag = t; new = o; reads = r; kept = q.1; made = q.0; behind = refl }

started : (n : Bytes) (as' : List Attribute) (d : Doc) → place_in d.frames ≡ nodes
    → Always (Started n as' d) (next (opening n as') d)
unfolding on_event on_opening open_in
started n as' d e =
    always_next (Started n as' d) (opening n as') d
    (always_after (Started n as' d) _ _ (always_after (Started n as' d) _ _ (rw e (started_element n as' d))))

-- what the profile's rules say of it, where x is the rdf:about so far
record Kept (x : Option Bytes) (t : Tag) : Type 0 where
  description : t.iri ≡ rdf "Description"
  a : Bytes
  about : t.about ≡ some a
  first : (x ≡ none) ⊎ (x ≡ some a)

same-about : (x o : Option Bytes) → same_about x o ≡ true → (a : Bytes) × (o ≡ some a) × ((x ≡ none) ⊎ (x ≡ some a))
unfolding same_about
same-about x none h = absurd (false≢true h)
same-about none (some a) h = (a, refl, inl refl)
same-about (some b) (some a) h = (a, refl, inr (ap some (sym (same_true a b h))))

kept_top : (x : Option Bytes) (t : Tag) → is_top_level x t ≡ true → Kept x t
unfolding is_top_level
kept_top x t h =
    let k = same-about x t.about (and_right (same t.iri (rdf "Description")) (same_about x t.about) h) in
    record {
      description = same_true t.iri (rdf "Description") (and_left (same t.iri (rdf "Description")) _ h);
      a = k.0;
      about = k.1;
      first = k.2;
    }

-- the node that it opens has this subject
abbrev Names : Bytes → Opened → Type 0
Names a o = o.kind ≡ node_element (named a) 0

named_by : (i l o : Option Bytes) (a g : Bytes) → i ≡ none → o ≡ some a → subject_of (or_else i o) l g ≡ named a
unfolding subject_of or_else
named_by i l o a g e h = rw (e, h)

named_node : (t : Tag) (n : ℕ) (a : Bytes) → t.id ≡ none → t.about ≡ some a → Always (Names a) (open_node t n)
unfolding open_node
named_node t n a e h =
    always_require (Names a) _ _ _ λ e₁. always_require (Names a) _ _ _ λ e₂.
    always_after (Names a) _ _ (ap (λ (s : Subject). node_element s 0) (named_by t.id t.node_id t.about a _ e h))

-- ---- what open elements say of later ones, once the first has opened

-- rdf:RDF remembers its rdf:about, and the wrapper has had its rdf:RDF
abbrev Told : Bytes → Kind → Part → Type 0
Told a rdf_rdf q = q ≡ top_level (some a)
Told a (wrapper had) q = had ≡ true
Told a (node_element s li) q = Unit {0}
Told a (property_element p v) q = Unit {0}
Told a xml_element q = Unit {0}

abbrev AllTold : Bytes → List Frame → Type 0
AllTold a fs = All (λ f. Told a f.kind f.part) fs

told-value : (a : Bytes) (g : Value → Value) (k : Kind) (q : Part) → Told a k q → Told a (on_value g k) q
unfolding on_value
told-value a g rdf_rdf q h = h
told-value a g (wrapper had) q h = h
told-value a g (node_element s li) q h = tt
told-value a g (property_element p v) q h = tt
told-value a g xml_element q h = tt

told_changed : (a : Bytes) (g : Value → Value) (fs : List Frame) → AllTold a fs → AllTold a (change_value g fs)
unfolding with_kind
told_changed a g fs h =
    all_changed (λ f. Told a f.kind f.part) g (λ f k. told-value a g f.kind f.part k) fs h

-- the rdf:about is remembered from the first on
told-counted : (a : Bytes) (i : Bytes) (t : Tag) (k : Kind) (q : Part) → Told a k q
    → Told a (counted i k) (noted true t q)
unfolding counted noted with_child
told-counted a i t rdf_rdf q h = rw h
told-counted a i t (wrapper had) q h = refl
told-counted a i t (node_element s li) q h = tt
told-counted a i t (property_element p v) q h = tt
told-counted a i t xml_element q h = tt

told-count : (a : Bytes) (i : Bytes) (t : Tag) (fs : List Frame) → AllTold a fs
    → AllTold a (count_li i (noted true t) fs)
unfolding count_li with_kind with_part
told-count a i t [] h = tt
told-count a i t (f ∷ fs) h = (told-counted a i t f.kind f.part h.0, h.1)

-- ---- no second rdf:RDF opens

-- a packet in which a top-level element with this rdf:about has opened
record Begun (a : Bytes) (d : Doc) : Type 0 where
  xmp : d.mode.xmp ≡ true
  rooted : d.rooted ≡ true
  told : AllTold a d.frames

no_root : (d : Doc) → d.rooted ≡ true → is_second_root d ≡ false → d.frames ≡ [] → ⊥
unfolding is_second_root is_empty
no_root d r s e = true≢false (sym (and_both d.rooted (is_empty d.frames) r (ap is_empty e)) ∙ s)

not_outside : (a : Bytes) (d : Doc) (t : Tag) → Begun a d → is_second_root d ≡ false
    → keeps d.mode.xmp d.frames t ≡ true → place_in d.frames ≡ outside → ⊥
unfolding keeps
not_outside a d t b s k e =
    go d.frames refl b.told (subst (λ (p : Bool). keeps p d.frames t ≡ true) b.xmp k) e
  where
    in_kind_lem : (f : Frame) (k : Kind) → Told a k f.part → keeps_kind k f.part t ≡ true → in_kind k ≡ outside → ⊥
    in_kind_lem f rdf_rdf h g e = unfold in_kind in (let z : ◌≡◌ {A = ℕ} 0 1 = cc in omega arith)
    in_kind_lem f (wrapper had) h g e =
        unfold keeps_kind is_its_rdf in true≢false (sym (and_right (same t.iri (rdf "RDF")) (not had) g) ∙ ap not h)
    in_kind_lem f (node_element s li) h g e = unfold in_kind in (let z : ◌≡◌ {A = ℕ} 0 1 = cc in omega arith)
    in_kind_lem f (property_element p (default x o)) h g e =
        unfold in_kind in_value in (let z : ◌≡◌ {A = ℕ} 0 1 = cc in omega arith)
    in_kind_lem f (property_element p (collection cs)) h g e =
        unfold in_kind in_value in (let z : ◌≡◌ {A = ℕ} 0 1 = cc in omega arith)
    in_kind_lem f (property_element p (literal x)) h g e =
        unfold in_kind in_value in (let z : ◌≡◌ {A = ℕ} 0 1 = cc in omega arith)
    in_kind_lem f (property_element p other) h g e = unfold in_kind in_value in (let z : ◌≡◌ {A = ℕ} 0 1 = cc in omega arith)
    in_kind_lem f xml_element h g e = unfold in_kind in (let z : ◌≡◌ {A = ℕ} 0 1 = cc in omega arith)

    go : (fs : List Frame) → d.frames ≡ fs → AllTold a fs → (keeps_around fs t && has_none_out t) ≡ true
        → place_in fs ≡ outside → ⊥
    go [] is h g e = no_root d b.rooted s is
    go (f ∷ fs) is h g e =
        in_kind_lem f f.kind h.0 (unfold keeps_around in and_left (keeps_kind f.kind f.part t) (has_none_out t) g)
        (unfold place_in in e)

-- nothing else that opens says anything
silent : (a : Bytes) (q : Part) (m : Mode) (k : Kind) (p : Place) → Stands m k p → (p ≡ outside → ⊥) → Told a k q
silent a q m rdf_rdf p s w = absurd (w s)
silent a q m (wrapper had) p s w = absurd (w (wrapper_place m.xmp p s))
silent a q m (node_element u li) p s w = tt
silent a q m (property_element o v) p s w = tt
silent a q m xml_element p s w = tt

-- with other open elements
still : (a : Bytes) {d : Doc} (fs : List Frame) → Begun a d → AllTold a fs → Begun a (with_frames fs d)
unfolding with_frames
still a fs h t = record { xmp = h.xmp; rooted = h.rooted; told = t }

begun : (a : Bytes) {d d' : Doc} {us : List Triple} → Change d us d' → Begun a d → Begun a d'
unfolding with_labels opened wrapped
begun a stays h = h
begun a {d} (takes_text_lem v e) h = still a _ h (told_changed a _ d.frames h.told)
begun a {d} (takes_xml_lem x e) h = still a _ h (told_changed a _ d.frames h.told)
begun a {d} (copies m as' x e c) h = still a _ h (tt, told_changed a _ d.frames h.told)
begun a {d} (opens m as' t o z c r g q s) h =
    let p : Place = place_in d.frames in
    record {
      xmp = h.xmp;
      rooted = refl;
      told = (
        silent a _ d.mode o.kind p (produced d.mode p t d.labels o q) (not_outside a d t h z g),
        subst (λ (y : Bool). AllTold a (count_li t.iri (noted y t) d.frames)) (sym h.xmp)
            (told-count a t.iri t d.frames h.told),
      );
    }
begun a {d} (wraps m as' z p e c) h = absurd (no_root d h.rooted z e)
begun a {d} (ends_root f fs is k) h = still a fs h (all_but _ f fs d.frames is h.told)
begun a {d} (ends_wrapper f fs b is k) h = still a fs h (all_but _ f fs d.frames is h.told)
begun a {d} (ends_node f fs s li is k) h = still a _ h (told_changed a _ fs (all_but _ f fs d.frames is h.told))
begun a {d} (ends_property f fs p v l ws n is k q) h =
    let r : Begun a (with_frames fs d) = still a fs h (all_but _ f fs d.frames is h.told) in
    record { xmp = r.xmp; rooted = r.rooted; told = r.told }
begun a {d} (ends_xml f fs x is k) h = still a _ h (told_changed a _ fs (all_but _ f fs d.frames is h.told))

-- ---- top-level elements

-- in rdf:RDF stand nodes
in_nodes : (fs : List Frame) → innermost fs ≡ some rdf_rdf → place_in fs ≡ nodes
unfolding innermost place_in in_kind
in_nodes [] e = let z : ◌≡◌ {A = ℕ} 0 1 = cc in absurd (omega arith)
in_nodes (f ∷ fs) e = ap in_kind (some-injective f.kind rdf_rdf e)

in_rdf_lem : (fs : List Frame) → innermost fs ≡ some rdf_rdf
    → (f : Frame) × (gs : List Frame) × (fs ≡ f ∷ gs) × (f.kind ≡ rdf_rdf)
unfolding innermost
in_rdf_lem [] e = let z : ◌≡◌ {A = ℕ} 0 1 = cc in absurd (omega arith)
in_rdf_lem (f ∷ fs) e = (f, fs, refl, some-injective f.kind rdf_rdf e)

kept_here : (k : Kind) (q : Part) (x : Option Bytes) (t : Tag) → k ≡ rdf_rdf → q ≡ top_level x → keeps_kind k q t ≡ true
    → Kept x t
unfolding keeps_kind keeps_part
kept_here k q x t e g h = kept_top x t (rw (e, g) at h)

kept_in_rdf : (f : Frame) (fs gs : List Frame) (x : Option Bytes) (t : Tag) → gs ≡ f ∷ fs → f.kind ≡ rdf_rdf
    → f.part ≡ top_level x → keeps true gs t ≡ true → Kept x t
unfolding keeps keeps_around
kept_in_rdf f fs gs x t is e g h =
    let k : (keeps_kind f.kind f.part t && has_none_out t) ≡ true = rw is at h in
    kept_here f.kind f.part x t e g (and_left (keeps_kind f.kind f.part t) (has_none_out t) k)

-- what it remembers behind it
remembered : (x : Option Bytes) (t : Tag) (a : Bytes) → t.about ≡ some a → (x ≡ none) ⊎ (x ≡ some a)
    → noted true t (top_level x) ≡ top_level (some a)
unfolding noted with_child
remembered x t a e (inl h) = rw h (ap top_level e)
remembered x t a e (inr h) = rw h refl

told_below : (a : Bytes) (fs : List Frame) → All (λ g. NoRdf g.kind) fs → All (λ g. HadRdf g.kind) fs
    → AllTold a fs
told_below a [] h k = tt
told_below a (f ∷ fs) h k = (go f.kind h.0 k.0, told_below a fs h.1 k.1)
  where
    go : (j : Kind) → NoRdf j → HadRdf j → Told a j f.part
    go rdf_rdf h k = absurd h
    go (wrapper had) h k = k
    go (node_element s li) h k = tt
    go (property_element p v) h k = tt
    go xml_element h k = tt

-- the elements around it, behind it
told-around : (a : Bytes) (i : Bytes) (t : Tag) (f : Frame) (fs gs : List Frame) → gs ≡ f ∷ fs → f.kind ≡ rdf_rdf
    → noted true t f.part ≡ top_level (some a)
    → AllTold a fs → AllTold a (count_li i (noted true t) gs)
unfolding count_li counted with_kind with_part
told-around a i t f fs gs is e q h = rw is (go f.kind e, h)
  where
    go : (k : Kind) → k ≡ rdf_rdf → Told a (counted i k) (noted true t f.part)
    go k e = rw e q

nodes-inside : nodes ≡ outside → ⊥
nodes-inside e = let z : ◌≡◌ {A = ℕ} 0 1 = cc in omega arith

module _ {d d' : Doc} (s : TopStart d d') (p : d.mode.xmp ≡ true) where
  abbrev read : Started s.name s.attributes d (s.lines, d')
  read =
      always_good (Started s.name s.attributes d)
      (started s.name s.attributes d (in_nodes d.frames s.in_rdf)) s.starts

  keeps_rules : keeps true d.frames read.tag ≡ true
  keeps_rules = subst (λ (x : Bool). keeps x d.frames read.tag ≡ true) p read.kept

  opens_named : (a : Bytes) → read.tag.about ≡ some a → innermost d'.frames ≡ some (node_element (named a) 0)
  unfolding innermost opened
  opens_named a e =
      let i : read.tag.id ≡ none = (kept_without d.frames read.tag keeps_rules).id in
      ap (λ (x : Doc). innermost x.frames) read.behind
      ∙ ap some (always_good (Names a) (named_node read.tag d.labels a i e) read.made)

  -- with the rdf:about that rdf:RDF has had so far
  described : (x : Option Bytes) (k : Kept x read.tag) → Describes k.a s
  described x k = record {
    tag = read.tag;
    reads = read.reads;
    description = k.description;
    about = k.about;
    opens = opens_named k.a k.about;
  }

  begins : (x : Option Bytes) (k : Kept x read.tag) (f : Frame) (fs : List Frame) → d.frames ≡ f ∷ fs
      → f.kind ≡ rdf_rdf → f.part ≡ top_level x → AllTold k.a fs → Begun k.a d'
  unfolding opened
  begins x k f fs is e q h =
      let t : Tag = read.tag in
      let n : noted true t f.part ≡ top_level (some k.a)
      = ap (noted true t) q ∙ remembered x t k.a k.about k.first in
      let new : Stands d.mode read.new.kind nodes
      = produced d.mode nodes t d.labels read.new read.made in
      subst (Begun k.a) (sym read.behind)
      (record {
        xmp = p;
        rooted = refl;
        told = (
          silent k.a _ d.mode read.new.kind nodes new nodes-inside,
          subst (λ (y : Bool). AllTold k.a (count_li t.iri (noted y t) d.frames)) (sym p)
              (told-around k.a t.iri t f fs d.frames is e n h),
        );
      })

-- the first
first_top : (b : Option Bytes) {d d' : Doc} {ts : List Triple} → After (fresh xmp_mode b) d ts → (s : TopStart d d')
    → (a : Bytes) × Describes a s × Begun a d'
first_top b {d} {d'} {ts} before s =
    let p : d.mode.xmp ≡ true = ap (λ (m : Mode). m.xmp) (always_mode xmp_mode b d ts before) in
    let r = in_rdf_lem d.frames s.in_rdf in
    let f : Frame = r.0 in
    let fs : List Frame = r.1 in
    let ps : Parts true (f ∷ fs)
    = subst (λ (x : Bool). Parts x (f ∷ fs)) p
    (subst (Parts d.mode.xmp) r.2 (always_parts xmp_mode b d ts before)) in
    let q : (x : Option Bytes) × (f.part ≡ top_level x)
    = subst (λ (k : Kind). Remembers true k f.part) r.3 ps.0 in
    let k : Kept q.0 (read s p).tag
    = kept_in_rdf f fs d.frames q.0 (read s p).tag r.2 r.3 q.1 (keeps_rules s p) in
    let n : Nested d.mode (f ∷ fs) = subst (Nested d.mode) r.2 (always_nested xmp_mode b d ts before) in
    let h : All (λ g. HadRdf g.kind) fs = subst Had r.2 (always_had xmp_mode b before) in
    let t : AllTold k.a fs = told_below k.a fs (one-rdf d.mode f fs n r.3) h in
    (k.a, described s p q.0 k, begins s p q.0 k f fs r.2 r.3 q.1 t)

-- A top-level element of a packet is rdf:Description with an rdf:about, and opens a node with it as its subject.
pub one_described : (b : Option Bytes) {d d' : Doc} {ts : List Triple} → After (fresh xmp_mode b) d ts → (s : TopStart d d')
    → (a : Bytes) × Describes a s
one_described b before s = let k = first_top b before s in (k.0, k.1)

-- every later one
later_top : (a : Bytes) {d d' : Doc} → Begun a d → (s : TopStart d d') → Describes a s
later_top a {d} {d'} h s =
    let p : d.mode.xmp ≡ true = h.xmp in
    let r = in_rdf_lem d.frames s.in_rdf in
    let f : Frame = r.0 in
    let fs : List Frame = r.1 in
    let ts : AllTold a (f ∷ fs) = subst (AllTold a) r.2 h.told in
    let q : f.part ≡ top_level (some a) = subst (λ (k : Kind). Told a k f.part) r.3 ts.0 in
    let k : Kept (some a) (read s p).tag
    = kept_in_rdf f fs d.frames (some a) (read s p).tag r.2 r.3 q (keeps_rules s p) in
    subst (λ (x : Bytes). Describes x s) (go k.a k.first) (described s p (some a) k)
  where
    go : (c : Bytes) → (some a ≡ none) ⊎ (some a ≡ some c) → c ≡ a
    go c (inl e) = absurd (none-ne-some a (sym e))
    go c (inr e) = sym (some-injective a c e)

-- Any two top-level elements of a packet, one after the other, are rdf:Description with the same resolved rdf:about, and
-- open nodes with it as their subject.
pub one-subject : (b : Option Bytes) {d₁ d₁' d₂ d₂' : Doc} {ts us : List Triple} → After (fresh xmp_mode b) d₁ ts
    → (s₁ : TopStart d₁ d₁') → After d₁' d₂ us → (s₂ : TopStart d₂ d₂')
    → (a : Bytes) × Describes a s₁ × Describes a s₂
one-subject b before s₁ between s₂ =
    let k = first_top b before s₁ in
    (k.0, k.1, later_top k.0 (always_holds (Begun k.0) (λ d d' us c f h. begun k.0 c h) k.2 between) s₂)
