-- Open elements stand in each other as the grammar says; so a property's subject is that of the node around it, and need not be kept twice.
use Rattle.std.specs.Prelude.{◌≡◌, refl, Bool, true, false, List, [], ◌∷◌, ℕ, ◌≤◌}
use Rattle.std.proofs.Common.{sym, ◌∙◌, ap, subst, arith}
use Rattle.std.proofs.lemmas.Bool.{false≢true}
use Rattle.std.proofs.Math.Option.{Option}
use Rattle.spec.specs.Bytes.{Bytes, when◌then◌else◌, All}
use Rattle.spec.specs.NTriples.{Subject, Triple}
use Rattle.spec.specs.declared.Mode.{Mode}
use Rattle.spec.specs.Document.{Value, default, collection, literal, other, Property, Kind, rdf_rdf, wrapper, node_element, property_element, xml_element, Part, Frame, Doc, fresh, with_frames, with_labels, with_kind, with_part, Place, outside, nodes, nodes_or_text, xml, properties, in_value, in_kind, place_in, change_value, on_value, is_xml_element, subject_bytes, kind_bytes, frame_bytes}
use Rattle.spec.specs.StartTag.{Tag}
use Rattle.spec.specs.Productions.{Opened, open_node, open_property, open_root, ParseType, no_parse_type, as_collection, as_resource, as_literal, as_other}
use Rattle.spec.specs.Productions as O
use Rattle.spec.specs.XmlLiteral.{takes_xml}
use Rattle.spec.specs.Xmp.{wrapped}
use Rattle.spec.specs.Opening.{is_xml}
use Rattle.spec.specs.Opening as G
use Rattle.spec.specs.EndTag as C
use Rattle.spec.specs.RdfXml as X
use Rattle.spec.specs.Lists.{After}
use Rattle.spec.specs.Limits.{most_held_bytes}
use Rattle.spec.specs.Within.{Short?}
use Rattle.spec.specs.Nesting.{Wraps, Stands, Nested}
use Rattle.theorems.specs.Always.{Always, always_any, always_after, always_require, always_if, always_good}
use Rattle.theorems.specs.Changes.{Produces, Change, stays, takes_text_lem, takes_xml_lem, copies, opens, wraps, ends_root, ends_wrapper, ends_node, ends_property, ends_xml, always_holds}
use Rattle.theorems.specs.Limits.{each-held, always_within}

-- ---- Literal content

pub in_xml : (p : Place) → is_xml p ≡ true → p ≡ xml
unfolding is_xml
in_xml outside h = absurd (false≢true h)
in_xml nodes h = absurd (false≢true h)
in_xml nodes_or_text h = absurd (false≢true h)
in_xml (properties s li) h = absurd (false≢true h)
in_xml xml h = refl

-- where only the profile has a wrapper
wraps_outside : (p : Bool) (q : Place) → Wraps p q → is_xml q ≡ false
unfolding is_xml
wraps_outside false q h = absurd h
wraps_outside true q h = ap is_xml h

-- what stands outside Literal content stands in no Literal content
pub outside_xml : (m : Mode) (k : Kind) (p : Place) → Stands m k p → is_xml (in_kind k) ≡ false → is_xml p ≡ false
unfolding in_kind is_xml
outside_xml m rdf_rdf p s h = ap is_xml s
outside_xml m (wrapper b) p s h = wraps_outside m.xmp p s
outside_xml m (node_element u li) p s h = s
outside_xml m (property_element o v) p s h = ap is_xml s.1
outside_xml m xml_element p s h = absurd (false≢true (sym h))

-- ---- what a start tag opens stands where it stood

abbrev Opens : Mode → Place → Opened → Type 0
Opens m p o = Stands m o.kind p

open_node_lem : (m : Mode) (p : Place) (t : Tag) (n : ℕ) → is_xml p ≡ false → Always (Opens m p) (open_node t n)
unfolding open_node
open_node_lem m p t n h = always_require (Opens m p) _ _ _ λ e₁. always_require (Opens m p) _ _ _ λ e₂. always_after (Opens m p) _ _ h

open_default_lem : (m : Mode) (t : Tag) (o : Property) (li n : ℕ) → Always (Opens m (properties o.subject li)) (O.open_default t o n)
unfolding O.open_default O.open_with_node
open_default_lem m t o li n =
    let Q : Opened → Type 0 = Opens m (properties o.subject li) in
    always_if Q _ _ _ (λ e. always_any Q _ _ λ x. (li, refl)) (λ e. (li, refl))

open_as_lem : (m : Mode) (a : ParseType) (t : Tag) (o : Property) (li n : ℕ) → Always (Opens m (properties o.subject li)) (O.open_as a t o n)
unfolding O.open_as O.open_with O.open_resource is_xml
open_as_lem m no_parse_type t o li n = open_default_lem m t o li n
open_as_lem m as_collection t o li n = (li, refl)
open_as_lem m as_resource t o li n = always_after (Opens m (properties o.subject li)) _ _ refl
open_as_lem m as_literal t o li n = (li, refl)
open_as_lem m as_other t o li n = (li, refl)

open_property_lem : (m : Mode) (t : Tag) (s : Subject) (li n : ℕ) → Always (Opens m (properties s li)) (open_property t s li n)
unfolding open_property
open_property_lem m t s li n =
    let Q : Opened → Type 0 = Opens m (properties s li) in
    always_require Q _ _ _ λ e₁. always_require Q _ _ _ λ e₂. always_after Q _ _ (open_as_lem m _ t _ li n)

open_root_lem : (m : Mode) (t : Tag) (n : ℕ) → Always (Opens m outside) (open_root t n)
unfolding open_root is_xml
open_root_lem m t n = always_if (Opens m outside) _ _ _ (λ e. refl) (λ e. open_node_lem m outside t n refl)

-- ---- what changes around an element does not move it

same-subject : {s t : Subject} {m n : ℕ} → properties s m ≡ properties t n → s ≡ t
same-subject e = cc

wraps_li : (p : Bool) (s : Subject) (li li' : ℕ) → Wraps p (properties s li) → Wraps p (properties s li')
wraps_li false s li li' h = h
wraps_li true s li li' h = cc

-- how many rdf:li the node around it has had
stands-li : (m : Mode) (k : Kind) (s : Subject) (li li' : ℕ) → Stands m k (properties s li) → Stands m k (properties s li')
unfolding is_xml
stands-li m rdf_rdf s li li' h = cc
stands-li m (wrapper b) s li li' h = wraps_li m.xmp s li li' h
stands-li m (node_element u j) s li li' h = h
stands-li m (property_element o v) s li li' (j, e) = (li', ap (λ (x : Subject). properties x li') (same-subject e))
stands-li m xml_element s li li' h = cc

stands-counted : (m : Mode) (k : Kind) (i : Bytes) (j : Kind) → Stands m k (in_kind j) → Stands m k (in_kind (G.counted i j))
unfolding in_kind G.counted
stands-counted m k i rdf_rdf h = h
stands-counted m k i (wrapper b) h = h
stands-counted m k i (node_element s li) h = stands-li m k s li _ h
stands-counted m k i (property_element p v) h = h
stands-counted m k i xml_element h = h

stands_in_counted : (m : Mode) (k : Kind) (i : Bytes) (n : Part → Part) (fs : List Frame) → Stands m k (place_in fs) → Stands m k (place_in (G.count_li i n fs))
unfolding place_in G.count_li with_kind with_part
stands_in_counted m k i n [] h = h
stands_in_counted m k i n (f ∷ fs) h = stands-counted m k i f.kind h

counted-stands : (m : Mode) (i : Bytes) (k : Kind) (p : Place) → Stands m k p → Stands m (G.counted i k) p
unfolding G.counted
counted-stands m i rdf_rdf p h = h
counted-stands m i (wrapper b) p h = h
counted-stands m i (node_element s li) p h = h
counted-stands m i (property_element o v) p h = h
counted-stands m i xml_element p h = h

count_nested : (m : Mode) (i : Bytes) (n : Part → Part) (fs : List Frame) → Nested m fs → Nested m (G.count_li i n fs)
unfolding G.count_li with_kind with_part
count_nested m i n [] h = tt
count_nested m i n (f ∷ fs) h = (counted-stands m i f.kind (place_in fs) h.0, h.1)

-- a change of value that leaves what may stand inside
abbrev Still : (Value → Value) → Type 0
Still g = (v : Value) → in_value (g v) ≡ in_value v

still_kind : (g : Value → Value) (k : Kind) → Still g → in_kind (on_value g k) ≡ in_kind k
unfolding in_kind on_value
still_kind g rdf_rdf s = refl
still_kind g (wrapper b) s = refl
still_kind g (node_element u li) s = refl
still_kind g (property_element p v) s = s v
still_kind g xml_element s = refl

still_place : (g : Value → Value) (fs : List Frame) → Still g → place_in (change_value g fs) ≡ place_in fs
unfolding place_in change_value with_kind when◌then◌else◌
still_place g [] s = refl
still_place g (f ∷ fs) s = go (is_xml_element f.kind)
  where
    go : (b : Bool) → place_in (when b then f ∷ change_value g fs else with_kind (on_value g f.kind) f ∷ fs) ≡ in_kind f.kind
    go true = refl
    go false = still_kind g f.kind s

changed_stands : (m : Mode) (g : Value → Value) (k : Kind) (p : Place) → Stands m k p → Stands m (on_value g k) p
unfolding on_value
changed_stands m g rdf_rdf p h = h
changed_stands m g (wrapper b) p h = h
changed_stands m g (node_element s li) p h = h
changed_stands m g (property_element o v) p h = h
changed_stands m g xml_element p h = h

change_nested : (m : Mode) (g : Value → Value) (fs : List Frame) → Still g → Nested m fs → Nested m (change_value g fs)
unfolding change_value with_kind when◌then◌else◌
change_nested m g [] s h = tt
change_nested m g (f ∷ fs) s h = go (is_xml_element f.kind) (change_nested m g fs s h.1)
  where
    go : (b : Bool) → Nested m (change_value g fs) → Nested m (when b then f ∷ change_value g fs else with_kind (on_value g f.kind) f ∷ fs)
    go true k = (subst (Stands m f.kind) (sym (still_place g fs s)) h.0, k)
    go false k = (changed_stands m g f.kind (place_in fs) h.0, h.1)

xml_still : (x : Bytes) → Still (takes_xml x)
unfolding takes_xml in_value
xml_still x (default d o) = refl
xml_still x (collection cs) = refl
xml_still x (literal y) = refl
xml_still x other = refl

node_still : (s : Subject) → Still (C.takes_node s)
unfolding C.takes_node in_value
node_still s (default d o) = refl
node_still s (collection cs) = refl
node_still s (literal x) = refl
node_still s other = refl

text_still : (s : Bytes) → Still (X.takes_text s)
unfolding X.takes_text in_value
text_still s (default d o) = refl
text_still s (collection cs) = refl
text_still s (literal x) = refl
text_still s other = refl

-- ---- every change that an event can make

pub produced : (m : Mode) (p : Place) (t : Tag) (n : ℕ) (o : Opened) → Produces p t n o → Stands m o.kind p
unfolding is_xml
produced m outside t n o q = always_good (Opens m outside) (open_root_lem m t n) q
produced m nodes t n o q = always_good (Opens m nodes) (open_node_lem m nodes t n refl) q
produced m nodes_or_text t n o q = always_good (Opens m nodes_or_text) (open_node_lem m nodes_or_text t n refl) q
produced m (properties s li) t n o q = always_good (Opens m (properties s li)) (open_property_lem m t s li n) q
produced m xml t n o q = absurd q

-- without the element that closes
without : (m : Mode) (f : Frame) (fs gs : List Frame) → gs ≡ f ∷ fs → Nested m gs → Nested m fs
without m f fs gs is h = let k : Nested m (f ∷ fs) = rw is at h in k.1

-- the wrapper stands where it opened
wraps_in : (p : Bool) (fs : List Frame) → p ≡ true → fs ≡ [] → Wraps p (place_in fs)
unfolding place_in
wraps_in false fs h e = let z : ◌≡◌ {A = ℕ} 0 1 = cc in absurd (omega arith)
wraps_in true fs h e = ap place_in e

nested : {d d' : Doc} {us : List Triple} → Change d us d' → Nested d.mode d.frames → Nested d'.mode d'.frames
unfolding with_frames with_labels G.opened wrapped
nested stays h = h
nested {d} (takes_text_lem v e) h = change_nested d.mode (X.takes_text v) d.frames (text_still v) h
nested {d} (takes_xml_lem x e) h = change_nested d.mode (takes_xml x) d.frames (xml_still x) h
nested {d} (copies m as' x e c) h = (still_place (takes_xml x) d.frames (xml_still x) ∙ e, change_nested d.mode (takes_xml x) d.frames (xml_still x) h)
nested {d} (opens m as' t o z c r g q s) h =
    (stands_in_counted d.mode o.kind t.iri _ d.frames (produced d.mode (place_in d.frames) t d.labels o q), count_nested d.mode t.iri _ d.frames h)
nested {d} (wraps m as' z p e c) h = (wraps_in d.mode.xmp d.frames p e, h)
nested {d} (ends_root f fs is k) h = without d.mode f fs d.frames is h
nested {d} (ends_wrapper f fs b is k) h = without d.mode f fs d.frames is h
nested {d} (ends_node f fs s li is k) h = change_nested d.mode (C.takes_node s) fs (node_still s) (without d.mode f fs d.frames is h)
nested {d} (ends_property f fs p v l ws n is k q) h = without d.mode f fs d.frames is h
nested {d} (ends_xml f fs x is k) h = change_nested d.mode (takes_xml x) fs (xml_still x) (without d.mode f fs d.frames is h)

-- Behind every accepted event, rdf:RDF is the outermost element or in the wrapper, and each property stands directly in the node whose
-- subject it has.
pub always_nested : (m : Mode) (b : Option Bytes) (d : Doc) (ts : List Triple) → After (fresh m b) d ts → Nested d.mode d.frames
unfolding fresh
always_nested m b d ts h = always_holds (λ d. Nested d.mode d.frames) (λ d d' us c f k. nested c k) tt h

mode_kept : {d d' : Doc} {us : List Triple} → Change d us d' → d'.mode ≡ d.mode
unfolding with_frames with_labels G.opened wrapped
mode_kept stays = refl
mode_kept (takes_text_lem v e) = refl
mode_kept (takes_xml_lem x e) = refl
mode_kept (copies m as' x e c) = refl
mode_kept (opens m as' t o z c r g q s) = refl
mode_kept (wraps m as' z p e c) = refl
mode_kept (ends_root f fs is k) = refl
mode_kept (ends_wrapper f fs b is k) = refl
mode_kept (ends_node f fs s li is k) = refl
mode_kept (ends_property f fs p v l ws n is k q) = refl
mode_kept (ends_xml f fs x is k) = refl

-- the mode is that of the start
pub always_mode : (m : Mode) (b : Option Bytes) (d : Doc) (ts : List Triple) → After (fresh m b) d ts → d.mode ≡ m
unfolding fresh
always_mode m b d ts h = always_holds (λ d. d.mode ≡ m) (λ d d' us c f k. mode_kept c ∙ k) refl h

-- so they stand as that mode says
pub nested_in : (m : Mode) (b : Option Bytes) (d : Doc) (ts : List Triple) → After (fresh m b) d ts → Nested m d.frames
nested_in m b d ts h = subst (λ (x : Mode). Nested x d.frames) (always_mode m b d ts h) (always_nested m b d ts h)

-- ---- a property's subject is held by the node around it

node_bytes : (k : Kind) (s : Subject) (li : ℕ) → in_kind k ≡ properties s li → subject_bytes s ≡ kind_bytes k
unfolding in_kind in_value kind_bytes
node_bytes rdf_rdf s li e = cc
node_bytes (wrapper b) s li e = cc
node_bytes (node_element u m) s li e = ap subject_bytes (same-subject (sym e))
node_bytes (property_element p (default d o)) s li e = cc
node_bytes (property_element p (collection cs)) s li e = cc
node_bytes (property_element p (literal x)) s li e = cc
node_bytes (property_element p other) s li e = cc
node_bytes xml_element s li e = cc

place_held : (n : ℕ) (fs : List Frame) (s : Subject) (li : ℕ) → place_in fs ≡ properties s li → All (λ f. frame_bytes f ≤ n) fs → subject_bytes s ≤ n
unfolding place_in frame_bytes
place_held n [] s li e h = let z : ◌≡◌ {A = ℕ} 0 1 = cc in absurd (omega arith)
place_held n (f ∷ fs) s li e h =
    let le : frame_bytes f ≤ n = h.0 in
    omega (arith, node_bytes f.kind s li e)

-- the subjects that an open element has at hand
abbrev HeldSubject : ℕ → Kind → Type 0
HeldSubject n rdf_rdf = Unit {0}
HeldSubject n (wrapper b) = Unit {0}
HeldSubject n (node_element s li) = subject_bytes s ≤ n
HeldSubject n (property_element p v) = subject_bytes p.subject ≤ n
HeldSubject n xml_element = Unit {0}

held-subject : (m : Mode) (n : ℕ) (k : Kind) (fs : List Frame) → kind_bytes k ≤ n → Stands m k (place_in fs) → All (λ f. frame_bytes f ≤ n) fs → HeldSubject n k
unfolding kind_bytes
held-subject m n rdf_rdf fs b s h = tt
held-subject m n (wrapper w) fs b s h = tt
held-subject m n (node_element u li) fs b s h = b
held-subject m n (property_element p v) fs b s h = place_held n fs p.subject s.0 s.1 h
held-subject m n xml_element fs b s h = tt

held_subjects : (m : Mode) (n : ℕ) (fs : List Frame) → Nested m fs → All (λ f. frame_bytes f ≤ n) fs → All (λ f. HeldSubject n f.kind) fs
unfolding frame_bytes
held_subjects m n [] s h = tt
held_subjects m n (f ∷ fs) s h =
    let le : frame_bytes f ≤ n = h.0 in
    (held-subject m n f.kind fs (omega arith) s.0 h.1, held_subjects m n fs s.1 h.1)

-- No subject, not even a label, which has no limit of its own, is longer than all held bytes.
pub subjects_held : (m : Mode) (b : Option Bytes) (d : Doc) (ts : List Triple) → Short? b → After (fresh m b) d ts → All (λ f. HeldSubject most_held_bytes f.kind) d.frames
subjects_held m b d ts s h = held_subjects d.mode most_held_bytes d.frames (always_nested m b d ts h) (each-held d (always_within m b d ts s h))
