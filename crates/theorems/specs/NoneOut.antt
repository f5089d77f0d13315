-- Document 02, request 1: "rdf:ID, rdf:nodeID, rdf:datatype and every parseType but Resource are out". What that leaves of
-- the open elements.
use Rattle.std.specs.Prelude.{◌≡◌, refl, Bool, true, not, List, [], ◌∷◌, ℕ}
use Rattle.std.proofs.Common.{subst, arith}
use Rattle.std.proofs.lemmas.Bool.{false≢true}
use Rattle.std.proofs.Math.Option.{Option, none, some}
use Rattle.spec.specs.Bytes.{Bytes, ascii, when◌then◌else◌, is_some, All}
use Rattle.spec.specs.Bytes as B
use Rattle.spec.specs.NTriples.{Subject, Triple}
use Rattle.spec.specs.Modes.{xmp_mode}
use Rattle.spec.specs.Document.{Value, default, collection, literal, other, Property, Kind, rdf_rdf, wrapper, node_element, property_element, xml_element, Part, Frame, Doc, fresh, with_frames, with_labels, with_kind, with_part, Place, outside, nodes, nodes_or_text, xml, properties, in_kind, in_value, place_in, change_value, on_value}
use Rattle.spec.specs.StartTag.{Tag}
use Rattle.spec.specs.Productions.{Opened, open_node, open_property, open_root, ParseType, no_parse_type, as_resource, parse_type_of}
use Rattle.spec.specs.Productions as O
use Rattle.spec.specs.XmlLiteral.{takes_xml}
use Rattle.spec.specs.Xmp.{wrapped, resource_at_most, has_none_out, keeps_around, keeps}
use Rattle.spec.specs.Opening.{counted, count_li, enter, opened}
use Rattle.spec.specs.EndTag.{takes_node}
use Rattle.spec.specs.RdfXml.{takes_text}
use Rattle.spec.specs.Lists.{After}
use Rattle.spec.specs.Packets.{PlainValue, PlainKind, NoneOut}
use Rattle.spec.proofs.Booleans.{and_left, and_right}
use Rattle.spec.proofs.Bytes.{same_true}
use Rattle.theorems.specs.Always.{Always, always_any, always_after, always_require, always_if, always_good}
use Rattle.theorems.specs.Changes.{Produces, Change, stays, takes_text_lem, takes_xml_lem, copies, opens, wraps, ends_root, ends_wrapper, ends_node, ends_property, ends_xml, all_changed, all_but, always_holds}

-- ---- a start tag with none of them

-- what the rule says of it
pub record Without (t : Tag) : Type 0 where
  pub id : t.id ≡ none
  pub node_id : t.node_id ≡ none
  pub datatype : t.datatype ≡ none
  pub parse_type : resource_at_most t.parse_type ≡ true

is_none : (o : Option Bytes) → not (is_some o) ≡ true → o ≡ none
unfolding is_some
is_none none h = refl
is_none (some v) h = absurd (false≢true h)

without : (t : Tag) → has_none_out t ≡ true → Without t
unfolding has_none_out
without t h =
    let k = and_right (not (is_some t.id)) _ h in
    let l = and_right (not (is_some t.node_id)) _ k in
    record {
      id = is_none t.id (and_left (not (is_some t.id)) _ h);
      node_id = is_none t.node_id (and_left (not (is_some t.node_id)) _ k);
      datatype = is_none t.datatype (and_left (not (is_some t.datatype)) _ l);
      parse_type = and_right (not (is_some t.datatype)) _ l;
    }

-- every start tag that keeps the profile's rules is one
pub kept_without : (fs : List Frame) (t : Tag) → keeps true fs t ≡ true → Without t
unfolding keeps
kept_without fs t h = without t (and_right (keeps_around fs t) (has_none_out t) h)

-- no parseType, or Resource
data Left : ParseType → Type 0 where
  no_parse_type_lem : Left no_parse_type
  resource : Left as_resource

left : (o : Option Bytes) → resource_at_most o ≡ true → Left (parse_type_of o)
unfolding resource_at_most parse_type_of when◌then◌else◌
left none h = no_parse_type_lem
left (some v) h = rw (same_true v (ascii "Resource") h) go
  where
    go : Left (parse_type_of (some (ascii "Resource")))
    go = unfold B.all parse_type_of in resource

-- ---- the element that it opens

abbrev Plain : Opened → Type 0
Plain o = PlainKind o.kind

plain-node : (t : Tag) (n : ℕ) → Always Plain (open_node t n)
unfolding open_node
plain-node t n = always_require Plain _ _ _ λ e₁. always_require Plain _ _ _ λ e₂. always_after Plain _ _ tt

plain-root : (t : Tag) (n : ℕ) → Always Plain (open_root t n)
unfolding open_root
plain-root t n = always_if Plain _ _ _ (λ e. tt) λ e. plain-node t n

plain_as : (a : ParseType) (t : Tag) (p : Property) (n : ℕ) → Left a → p.id ≡ none → t.datatype ≡ none
    → Always Plain (O.open_as a t p n)
unfolding O.open_as O.open_default O.open_with_node O.open_resource
plain_as a t p n no_parse_type_lem i d = always_if Plain _ _ _ (λ e. always_any Plain _ _ λ o. (i, d)) λ e. (i, d)
plain_as a t p n resource i d = always_after Plain _ _ tt

plain-property : (t : Tag) (s : Subject) (li n : ℕ) → Without t → Always Plain (open_property t s li n)
unfolding open_property
plain-property t s li n w =
    always_require Plain _ _ _ λ e₁. always_require Plain _ _ _ λ e₂.
    always_after Plain _ _
    (plain_as (parse_type_of t.parse_type) t _ n (left t.parse_type w.parse_type) w.id w.datatype)

plain-new : (p : Place) (t : Tag) (n : ℕ) (o : Opened) → Without t → Produces p t n o → Plain o
plain-new outside t n o w q = always_good Plain (plain-root t n) q
plain-new nodes t n o w q = always_good Plain (plain-node t n) q
plain-new nodes_or_text t n o w q = always_good Plain (plain-node t n) q
plain-new (properties s li) t n o w q = always_good Plain (plain-property t s li n w) q
plain-new xml t n o w q = absurd q

-- ---- changes to an open element

plain-counted : (i : Bytes) (k : Kind) → PlainKind k → PlainKind (counted i k)
unfolding counted
plain-counted i rdf_rdf h = tt
plain-counted i (wrapper b) h = tt
plain-counted i (node_element s li) h = tt
plain-counted i (property_element p v) h = h
plain-counted i xml_element h = h

plain-count : (i : Bytes) (g : Part → Part) (fs : List Frame) → All (λ f. PlainKind f.kind) fs
    → All (λ f. PlainKind f.kind) (count_li i g fs)
unfolding count_li with_kind with_part
plain-count i g [] h = tt
plain-count i g (f ∷ fs) h = (plain-counted i f.kind h.0, h.1)

abbrev Keeps : (Value → Value) → Type 0
Keeps g = (v : Value) → PlainValue v → PlainValue (g v)

plain-kind : (g : Value → Value) → Keeps g → (k : Kind) → PlainKind k → PlainKind (on_value g k)
unfolding on_value
plain-kind g keep rdf_rdf h = tt
plain-kind g keep (wrapper b) h = tt
plain-kind g keep (node_element s li) h = tt
plain-kind g keep (property_element p v) h = (h.0, keep v h.1)
plain-kind g keep xml_element h = h

plain_changed : (g : Value → Value) → Keeps g → (fs : List Frame) → All (λ f. PlainKind f.kind) fs
    → All (λ f. PlainKind f.kind) (change_value g fs)
unfolding with_kind
plain_changed g keep fs h = all_changed (λ f. PlainKind f.kind) g (λ f k. plain-kind g keep f.kind k) fs h

text-plain : (s : Bytes) → Keeps (takes_text s)
unfolding takes_text
text-plain s (default d o) h = h
text-plain s (collection cs) h = h
text-plain s (literal x) h = h
text-plain s other h = h

node-plain : (s : Subject) → Keeps (takes_node s)
unfolding takes_node
node-plain s (default d o) h = h
node-plain s (collection cs) h = h
node-plain s (literal x) h = h
node-plain s other h = h

xml_plain : (x : Bytes) → Keeps (takes_xml x)
unfolding takes_xml
xml_plain x (default d o) h = h
xml_plain x (collection cs) h = h
xml_plain x (literal y) h = h
xml_plain x other h = h

-- no Literal content is open
no_xml : (fs : List Frame) → All (λ f. PlainKind f.kind) fs → place_in fs ≡ xml → ⊥
unfolding place_in in_kind in_value
no_xml [] h e = let z : ◌≡◌ {A = ℕ} 0 1 = cc in omega arith
no_xml (f ∷ fs) h e = go f.kind h.0 e
  where
    go : (k : Kind) → PlainKind k → in_kind k ≡ xml → ⊥
    go rdf_rdf h e = let z : ◌≡◌ {A = ℕ} 0 1 = cc in omega arith
    go (wrapper b) h e = let z : ◌≡◌ {A = ℕ} 0 1 = cc in omega arith
    go (node_element s li) h e = let z : ◌≡◌ {A = ℕ} 0 1 = cc in omega arith
    go (property_element p (default d o)) h e = let z : ◌≡◌ {A = ℕ} 0 1 = cc in omega arith
    go (property_element p (collection cs)) h e = h.1
    go (property_element p (literal x)) h e = h.1
    go (property_element p other) h e = h.1
    go xml_element h e = h

-- ---- every change

-- in the profile
abbrev Kept : Doc → Type 0
Kept d = (d.mode.xmp ≡ true) × NoneOut d

kept_in : (p : Bool) (fs : List Frame) (t : Tag) → p ≡ true → keeps p fs t ≡ true → Without t
kept_in p fs t e h = kept_without fs t (subst (λ (x : Bool). keeps x fs t ≡ true) e h)

entered_none : (i : Option Bytes) (ids : List Bytes) → i ≡ none → ids ≡ [] → enter i ids ≡ []
unfolding enter
entered_none i ids e h = rw (e, h)

-- with other open elements
still : {d : Doc} (fs : List Frame) → Kept d → All (λ f. PlainKind f.kind) fs → Kept (with_frames fs d)
unfolding with_frames
still fs (p, h) k = (p, record { elements = k; ids = h.ids })

none_out : {d d' : Doc} {us : List Triple} → Change d us d' → Kept d → Kept d'
unfolding with_labels opened wrapped
none_out stays h = h
none_out {d} (takes_text_lem v e) h = still _ h (plain_changed _ (text-plain v) d.frames h.1.elements)
none_out {d} (takes_xml_lem x e) h = still _ h (plain_changed _ (xml_plain x) d.frames h.1.elements)
none_out {d} (copies m as' x e c) h = absurd (no_xml d.frames h.1.elements e)
none_out {d} (opens m as' t o z c r g q s) (p, h) =
    let w : Without t = kept_in d.mode.xmp d.frames t p g in
    let new : Plain o = plain-new (place_in d.frames) t d.labels o w q in
    let ids : enter t.id d.ids ≡ [] = entered_none t.id d.ids w.id h.ids in
    (p, record { elements = (new, plain-count t.iri _ d.frames h.elements); ids = ids })
none_out (wraps m as' z p e c) (p', h) = (p', record { elements = (tt, h.elements); ids = h.ids })
none_out {d} (ends_root f fs is k) h = still fs h (all_but _ f fs d.frames is h.1.elements)
none_out {d} (ends_wrapper f fs b is k) h = still fs h (all_but _ f fs d.frames is h.1.elements)
none_out {d} (ends_node f fs s li is k) h =
    still _ h (plain_changed _ (node-plain s) fs (all_but _ f fs d.frames is h.1.elements))
none_out {d} (ends_property f fs o v l ws n is k q) h =
    let r : Kept (with_frames fs d) = still fs h (all_but _ f fs d.frames is h.1.elements) in
    (r.0, record { elements = r.1.elements; ids = r.1.ids })
none_out {d} (ends_xml f fs x is k) h =
    still _ h (plain_changed _ (xml_plain x) fs (all_but _ f fs d.frames is h.1.elements))

-- Behind every accepted event of a packet no rdf:ID is entered, and every open property is a default one, without rdf:ID
-- and datatype.
pub always_none_out : (b : Option Bytes) {d : Doc} {ts : List Triple} → After (fresh xmp_mode b) d ts → NoneOut d
unfolding fresh
always_none_out b h =
    (always_holds Kept (λ d d' us c f k. none_out c k) (refl, record { elements = tt; ids = refl }) h).1
