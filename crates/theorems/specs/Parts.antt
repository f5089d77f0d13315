-- Document 02, request 1: what the profile remembers of the open elements, behind each accepted event; and that at most one rdf:RDF is open.
use Rattle.std.specs.Prelude.{◌≡◌, refl, Bool, true, false, not, List, [], ◌∷◌, ℕ}
use Rattle.std.proofs.Common.{sym, ◌∙◌, subst, inl, inr, true≢false, arith}
use Rattle.std.proofs.Math.Option.{Option, none, some}
use Rattle.spec.specs.XmlLang.{carries}
use Rattle.spec.specs.Bytes.{Bytes, when◌then◌else◌, same, All}
use Rattle.spec.specs.Rdf.{rdf}
use Rattle.spec.specs.declared.Mode.{Mode}
use Rattle.spec.specs.NTriples.{Subject, Triple}
use Rattle.spec.specs.Document.{Value, default, collection, literal, other, Property, Kind, rdf_rdf, wrapper, node_element, property_element, xml_element, Part, ordinary, top_level, alternatives, Frame, Doc, fresh, with_frames, with_labels, with_kind, with_part, Place, outside, nodes, nodes_or_text, xml, properties, in_value, in_kind, place_in, change_value, on_value}
use Rattle.spec.specs.StartTag.{Tag}
use Rattle.spec.specs.Productions.{Opened, open_node, open_property, open_root, ParseType, no_parse_type, as_collection, as_resource, as_literal, as_other}
use Rattle.spec.specs.Productions as O
use Rattle.spec.specs.Xmp.{wrapped, is_its_rdf, has_none_out, keeps_kind, keeps_around, keeps, new_part, with_child, noted}
use Rattle.spec.specs.Opening.{counted, count_li, opened}
use Rattle.spec.specs.Lists.{After}
use Rattle.spec.specs.Nesting.{Wraps, Stands, Nested}
use Rattle.spec.specs.Packets.{Remembers, Parts}
use Rattle.spec.proofs.Booleans.{and_left}
use Rattle.theorems.specs.Always.{Always, always_any, always_after, always_require, always_if, always_good}
use Rattle.theorems.specs.Changes.{Produces, Change, stays, takes_text_lem, takes_xml_lem, copies, opens, wraps, ends_root, ends_wrapper, ends_node, ends_property, ends_xml, all_changed, all_but, always_holds}

-- ---- changes to an open element

counted_remembers : (p : Bool) (i : Bytes) (k : Kind) (q : Part) → Remembers p k q → Remembers p (counted i k) q
unfolding counted
counted_remembers false i k q h = h
counted_remembers true i rdf_rdf q h = h
counted_remembers true i (wrapper b) q h = h
counted_remembers true i (node_element s li) q h = h
counted_remembers true i (property_element o v) q h = h
counted_remembers true i xml_element q h = h

value_remembers : (p : Bool) (g : Value → Value) (k : Kind) (q : Part) → Remembers p k q → Remembers p (on_value g k) q
unfolding on_value
value_remembers false g k q h = h
value_remembers true g rdf_rdf q h = h
value_remembers true g (wrapper b) q h = h
value_remembers true g (node_element s li) q h = h
value_remembers true g (property_element o v) q h = h
value_remembers true g xml_element q h = h

noted_top : (t : Tag) (a : Option Bytes) → (b : Option Bytes) × (with_child t (top_level a) ≡ top_level b)
unfolding with_child
noted_top t none = (t.about, refl)
noted_top t (some a) = (some a, refl)

noted-alt : (t : Tag) (l : Option Bool) → (m : Option Bool) × (with_child t (alternatives l) ≡ alternatives m)
unfolding with_child when◌then◌else◌
noted-alt t (some b) = (some b, refl)
noted-alt t none = go (same t.iri (rdf "li"))
  where
    go : (b : Bool) → (m : Option Bool) × ((when b then alternatives (some (carries t.own_tag)) else alternatives none) ≡ alternatives m)
    go true = (some (carries t.own_tag), refl)
    go false = (none, refl)

noted_ordinary : (t : Tag) (q : Part) → q ≡ ordinary → with_child t q ≡ ordinary
unfolding with_child
noted_ordinary t q e = rw e

noted_remembers : (p : Bool) (t : Tag) (k : Kind) (q : Part) → Remembers p k q → Remembers p k (noted p t q)
unfolding noted
noted_remembers false t k q h = h
noted_remembers true t rdf_rdf q (a, e) = rw e (noted_top t a)
noted_remembers true t (wrapper b) q h = noted_ordinary t q h
noted_remembers true t (node_element s li) q (inl e) = inl (noted_ordinary t q e)
noted_remembers true t (node_element s li) q (inr (l, e)) = inr (rw e (noted-alt t l))
noted_remembers true t (property_element o v) q h = noted_ordinary t q h
noted_remembers true t xml_element q h = noted_ordinary t q h

count_parts : (p : Bool) (i : Bytes) (t : Tag) (fs : List Frame) → Parts p fs → Parts p (count_li i (noted p t) fs)
unfolding count_li with_kind with_part
count_parts p i t [] h = tt
count_parts p i t (f ∷ fs) h = (noted_remembers p t (counted i f.kind) f.part (counted_remembers p i f.kind f.part h.0), h.1)

change_parts : (p : Bool) (g : Value → Value) (fs : List Frame) → Parts p fs → Parts p (change_value g fs)
unfolding with_kind
change_parts p g fs h = all_changed (λ f. Remembers p f.kind f.part) g (λ f k. value_remembers p g f.kind f.part k) fs h

-- ---- a new element

-- where rdf:RDF may stand, only it opens in the profile
only-rdf : (fs : List Frame) (t : Tag) → place_in fs ≡ outside → keeps true fs t ≡ true → same t.iri (rdf "RDF") ≡ true
unfolding place_in in_kind in_value keeps keeps_around keeps_kind is_its_rdf
only-rdf [] t e h = and_left (same t.iri (rdf "RDF")) _ (and_left _ (has_none_out t) h)
only-rdf (f ∷ fs) t e h = go f.kind e (and_left _ (has_none_out t) h)
  where
    go : (k : Kind) → in_kind k ≡ outside → keeps_kind k f.part t ≡ true → same t.iri (rdf "RDF") ≡ true
    go rdf_rdf e h = absurd (let z : ◌≡◌ {A = ℕ} 0 1 = cc in omega arith)
    go (wrapper had) e h = and_left (same t.iri (rdf "RDF")) (not had) h
    go (node_element s li) e h = absurd (let z : ◌≡◌ {A = ℕ} 0 1 = cc in omega arith)
    go (property_element p (default d o)) e h = absurd (let z : ◌≡◌ {A = ℕ} 0 1 = cc in omega arith)
    go (property_element p (collection cs)) e h = absurd (let z : ◌≡◌ {A = ℕ} 0 1 = cc in omega arith)
    go (property_element p (literal x)) e h = absurd (let z : ◌≡◌ {A = ℕ} 0 1 = cc in omega arith)
    go (property_element p other) e h = absurd (let z : ◌≡◌ {A = ℕ} 0 1 = cc in omega arith)
    go xml_element e h = absurd (let z : ◌≡◌ {A = ℕ} 0 1 = cc in omega arith)

abbrev New : Part → Opened → Type 0
New q o = Remembers true o.kind q

new-root : (t : Tag) (n : ℕ) → same t.iri (rdf "RDF") ≡ true → Always (New (top_level none)) (open_root t n)
unfolding open_root
new-root t n h = always_if (New (top_level none)) _ _ _ (λ e. (none, refl)) λ e. absurd (true≢false (sym h ∙ e))

new-node : (t : Tag) (n : ℕ) (b : Bool) → Always (New (when b then alternatives none else ordinary)) (open_node t n)
unfolding open_node when◌then◌else◌
new-node t n true = always_require (New (alternatives none)) _ _ _ λ e₁. always_require (New (alternatives none)) _ _ _ λ e₂. always_after (New (alternatives none)) _ _ (inr (none, refl))
new-node t n false = always_require (New ordinary) _ _ _ λ e₁. always_require (New ordinary) _ _ _ λ e₂. always_after (New ordinary) _ _ (inl refl)

new_as : (a : ParseType) (t : Tag) (p : Property) (n : ℕ) → Always (New ordinary) (O.open_as a t p n)
unfolding O.open_as O.open_with O.open_default O.open_with_node O.open_resource
new_as no_parse_type t p n = always_if (New ordinary) _ _ _ (λ e. always_any (New ordinary) _ _ λ o. refl) λ e. refl
new_as as_collection t p n = refl
new_as as_resource t p n = always_after (New ordinary) _ _ (inl refl)
new_as as_literal t p n = refl
new_as as_other t p n = refl

new-property : (t : Tag) (s : Subject) (li n : ℕ) → Always (New ordinary) (open_property t s li n)
unfolding open_property
new-property t s li n = always_require (New ordinary) _ _ _ λ e₁. always_require (New ordinary) _ _ _ λ e₂. always_after (New ordinary) _ _ (new_as _ t _ n)

new_remembers : (p : Bool) (q : Place) (t : Tag) (n : ℕ) (o : Opened) (fs : List Frame) → place_in fs ≡ q → keeps p fs t ≡ true → Produces q t n o → Remembers p o.kind (new_part p q t.iri)
unfolding new_part
new_remembers false q t n o fs e h k = refl
new_remembers true outside t n o fs e h k = always_good (New (top_level none)) (new-root t n (only-rdf fs t e h)) k
new_remembers true nodes t n o fs e h k = always_good (New _) (new-node t n (same t.iri (rdf "Alt"))) k
new_remembers true nodes_or_text t n o fs e h k = always_good (New _) (new-node t n (same t.iri (rdf "Alt"))) k
new_remembers true (properties s li) t n o fs e h k = always_good (New ordinary) (new-property t s li n) k
new_remembers true xml t n o fs e h k = absurd k

-- ---- every change

always_ordinary : (p : Bool) → Remembers p xml_element ordinary
always_ordinary false = refl
always_ordinary true = refl

wrapper_ordinary : (p : Bool) (b : Bool) → Remembers p (wrapper b) ordinary
wrapper_ordinary false b = refl
wrapper_ordinary true b = refl

parts : {d d' : Doc} {us : List Triple} → Change d us d' → Parts d.mode.xmp d.frames → Parts d'.mode.xmp d'.frames
unfolding with_frames with_labels opened wrapped
parts stays h = h
parts {d} (takes_text_lem v e) h = change_parts d.mode.xmp _ d.frames h
parts {d} (takes_xml_lem x e) h = change_parts d.mode.xmp _ d.frames h
parts {d} (copies m as' x e c) h = (always_ordinary d.mode.xmp, change_parts d.mode.xmp _ d.frames h)
parts {d} (opens m as' t o z c r g q s) h =
    (new_remembers d.mode.xmp (place_in d.frames) t d.labels o d.frames refl g q, count_parts d.mode.xmp t.iri t d.frames h)
parts {d} (wraps m as' z p e c) h = (wrapper_ordinary d.mode.xmp false, h)
parts {d} (ends_root f fs is k) h = all_but _ f fs d.frames is h
parts {d} (ends_wrapper f fs b is k) h = all_but _ f fs d.frames is h
parts {d} (ends_node f fs s li is k) h = change_parts d.mode.xmp _ fs (all_but _ f fs d.frames is h)
parts {d} (ends_property f fs p v l ws n is k q) h = all_but _ f fs d.frames is h
parts {d} (ends_xml f fs x is k) h = change_parts d.mode.xmp _ fs (all_but _ f fs d.frames is h)

-- Behind every accepted event what is remembered for the profile goes by the kind of the element; in the base mode it is nothing.
pub always_parts : (m : Mode) (b : Option Bytes) (d : Doc) (ts : List Triple) → After (fresh m b) d ts → Parts d.mode.xmp d.frames
unfolding fresh
always_parts m b d ts h = always_holds (λ d. Parts d.mode.xmp d.frames) (λ d d' us c f k. parts c k) tt h

-- ---- one rdf:RDF

abbrev pub NoRdf : Kind → Type 0
NoRdf rdf_rdf = ⊥
NoRdf (wrapper b) = Unit {0}
NoRdf (node_element s li) = Unit {0}
NoRdf (property_element p v) = Unit {0}
NoRdf xml_element = Unit {0}

pub wrapper_place : (p : Bool) (q : Place) → Wraps p q → q ≡ outside
wrapper_place false q h = absurd h
wrapper_place true q h = h

no_rdf : (m : Mode) (fs : List Frame) → Nested m fs → place_in fs ≡ outside → All (λ f. NoRdf f.kind) fs
unfolding place_in in_kind in_value
no_rdf m [] h e = tt
no_rdf m (f ∷ fs) h e = go f.kind e h.0 (no_rdf m fs h.1)
  where
    go : (k : Kind) → in_kind k ≡ outside → Stands m k (place_in fs) → (place_in fs ≡ outside → All (λ f. NoRdf f.kind) fs) → NoRdf k × All (λ f. NoRdf f.kind) fs
    go rdf_rdf e s r = absurd (let z : ◌≡◌ {A = ℕ} 0 1 = cc in omega arith)
    go (wrapper b) e s r = (tt, r (wrapper_place m.xmp (place_in fs) s))
    go (node_element u li) e s r = absurd (let z : ◌≡◌ {A = ℕ} 0 1 = cc in omega arith)
    go (property_element p (default d o)) e s r = absurd (let z : ◌≡◌ {A = ℕ} 0 1 = cc in omega arith)
    go (property_element p (collection cs)) e s r = absurd (let z : ◌≡◌ {A = ℕ} 0 1 = cc in omega arith)
    go (property_element p (literal x)) e s r = absurd (let z : ◌≡◌ {A = ℕ} 0 1 = cc in omega arith)
    go (property_element p other) e s r = absurd (let z : ◌≡◌ {A = ℕ} 0 1 = cc in omega arith)
    go xml_element e s r = absurd (let z : ◌≡◌ {A = ℕ} 0 1 = cc in omega arith)

-- Below an open rdf:RDF no other is open: one place for the rdf:about is enough.
pub one-rdf : (m : Mode) (f : Frame) (fs : List Frame) → Nested m (f ∷ fs) → f.kind ≡ rdf_rdf → All (λ g. NoRdf g.kind) fs
one-rdf m f fs h e = no_rdf m fs h.1 (subst (λ (k : Kind). Stands m k (place_in fs)) e h.0)
