-- After every accepted event all limits of document 01 hold of what is kept, so that arrays of these sizes have room for it.
use Rattle.std.specs.Prelude.{◌≡◌, refl, Bool, true, false, ◌&&◌, List, [], ◌∷◌, ◌++◌, ℕ, suc, ◌*◌, ◌≤◌, ◌<◌, leb, length}
use Rattle.std.proofs.Common.{sym, ◌∙◌, ap, arith, length-append, ltb-true, leb-true}
use Rattle.std.proofs.lemmas.Bool.{false≢true}
use Rattle.std.proofs.Math.Option.{Option, none, some}
use Rattle.spec.specs.XmlLang.{carries}
use Rattle.spec.specs.Bytes.{Bytes, when◌then◌else◌, same, or_else, present, total, All}
use Rattle.spec.specs.Bytes as B
use Rattle.spec.specs.Numbers.{Answer, refuse, good}
use Rattle.spec.specs.Limits.{most_open_elements, most_attributes, most_bindings, most_name_bytes, most_ids, most_id_bytes, most_held_bytes, most_labels}
use Rattle.spec.specs.Pyx.{Attribute}
use Rattle.spec.specs.Namespaces.{declared}
use Rattle.spec.specs.NTriples.{Subject, Triple, decimal}
use Rattle.spec.specs.Rdf.{rdf}
use Rattle.spec.specs.declared.Mode.{Mode}
use Rattle.spec.specs.Document.{Value, default, collection, literal, other, Property, Kind, rdf_rdf, wrapper, node_element, property_element, xml_element, Part, ordinary, top_level, alternatives, Frame, Doc, fresh, with_frames, with_labels, with_kind, with_part, in_scope, Place, outside, nodes, nodes_or_text, xml, properties, in_value, in_kind, place_in, change_value, on_value, is_xml_element, value_bytes, frame_bytes, held_bytes, fits}
use Rattle.spec.specs.Document as D
use Rattle.spec.specs.StartTag.{Tag, read_tag, is_short, all_short}
use Rattle.spec.specs.Productions.{Opened, open_node, open_property, open_root, is_li, property_iri, ParseType, no_parse_type, as_collection, as_resource, as_literal, as_other}
use Rattle.spec.specs.Productions as O
use Rattle.spec.specs.XmlLiteral.{takes_xml}
use Rattle.spec.specs.Xmp.{wrapped, new_part, with_child, noted}
use Rattle.spec.specs.Opening as G
use Rattle.spec.specs.EndTag as C
use Rattle.spec.specs.RdfXml as X
use Rattle.spec.specs.Calls.{State, is_open, is_closed, unlawful, may_start, started, call_start, refused}
use Rattle.spec.specs.Lists.{After}
use Rattle.spec.specs.Within.{Short, Short?, ShortSubject, ShortValue, ShortKind, ShortPart, ShortFrame, Within}
use Rattle.spec.proofs.Booleans.{and_left, and_right}
use Rattle.theorems.specs.Always.{Always, always_bind, always_any, always_then, always_after, always_test, always_require, always_if, always_map, always_good}
use Rattle.theorems.specs.Calls.{number_positive, Steps, written, always_lawful}
use Rattle.theorems.specs.Decimal.{decimal-length}
use Rattle.theorems.specs.Lists.{bound_after}
use Rattle.theorems.specs.Changes.{Produces, copy, Change, stays, takes_text_lem, takes_xml_lem, copies, opens, wraps, ends_root, ends_wrapper, ends_node, ends_property, ends_xml, always_holds}

-- ---- a start tag whose names are short

all_short_lem : (l : List Bytes) → all_short l ≡ true → All Short l
unfolding all_short
all_short_lem [] h = tt
all_short_lem (s ∷ l) h = (leb-true (length s) most_name_bytes (and_left (leb (length s) most_name_bytes) (all_short l) h), all_short_lem l (and_right (leb (length s) most_name_bytes) (all_short l) h))

all_behind : (k l : List Bytes) → All Short (k ++ l) → All Short l
all_behind [] l h = h
all_behind (s ∷ k) l h = all_behind k l h.1

all_present : (l : List (Option Bytes)) → All Short (present l) → All Short? l
unfolding present
all_present [] h = tt
all_present (none ∷ l) h = (tt, all_present l h)
all_present (some s ∷ l) h = (h.0, all_present l h.1)

record ShortTag (t : Tag) : Type 0 where
  iri : Short t.iri
  own_base : Short? t.own_base
  id : Short? t.id
  about : Short? t.about
  resource : Short? t.resource
  datatype : Short? t.datatype

short_tag : (t : Tag) → is_short t ≡ true → ShortTag t
unfolding is_short
short_tag t h =
    let some' : List (Option Bytes) = t.own_base ∷ t.id ∷ t.about ∷ t.resource ∷ t.datatype ∷ t.type ∷ [] in
    let a : All Short (t.iri ∷ t.names ++ present some') = all_short_lem (t.iri ∷ t.names ++ present some') h in
    let b : All Short? some' = all_present some' (all_behind t.names (present some') a.1) in
    record { iri = a.0; own_base = b.0; id = b.1.0; about = b.1.1.0; resource = b.1.1.1.0; datatype = b.1.1.1.1.0 }

-- a start tag's bindings are those that it declares
tag_bindings : (n : Bytes) (as' : List Attribute) (d : Doc) → Always (λ t. t.bindings ≡ declared as') (read_tag n as' d)
unfolding read_tag
tag_bindings n as' d =
    always_any _ _ _ λ i.
    always_any _ _ _ λ ms.
    always_any _ _ _ λ id'.
    always_require _ _ _ _ λ e.
    always_any _ _ _ λ about'.
    always_any _ _ _ λ resource'.
    always_any _ _ _ λ datatype'.
    always_any _ _ _ λ type'. refl

-- ---- rdf:_k is short

property_iri_short : (i : Bytes) (li : ℕ) → Short i → (is_li i ≡ true → li < most_labels) → Short (property_iri i (suc li))
unfolding property_iri when◌then◌else◌ rdf B.ascii most_name_bytes most_labels
property_iri_short i li h k = go (is_li i) refl
  where
    go : (b : Bool) → is_li i ≡ b → length (when b then rdf "_" ++ decimal (suc li) else i) ≤ most_name_bytes
    go true e =
        let le : li < 99_999_999 = k e in
        let m : length (decimal (suc li)) ≤ 8 = decimal-length 8 (suc li) (omega arith) in
        omega arith
    go false e = h

-- ---- productions: what a start tag with short names opens

subject_of_lem : (i l : Option Bytes) (g : Bytes) → Short? i → ShortSubject (O.subject_of i l g)
unfolding O.subject_of
subject_of_lem (some i) l g h = h
subject_of_lem none (some l) g h = tt
subject_of_lem none none g h = tt

or_else_lem : (a b : Option Bytes) → Short? a → Short? b → Short? (or_else a b)
unfolding or_else
or_else_lem none b h k = k
or_else_lem (some a) b h k = h

-- one more rdf:li in the node around it is not too many
abbrev MayCount : Place → Bytes → Type 0
MayCount outside i = Unit {0}
MayCount nodes i = Unit {0}
MayCount nodes_or_text i = Unit {0}
MayCount xml i = Unit {0}
MayCount (properties s li) i = is_li i ≡ true → li < most_labels

abbrev Opens : Place → Tag → Opened → Type 0
Opens p t o = MayCount p t.iri × ShortKind o.kind

open_node_lem : (p : Place) (t : Tag) (n : ℕ) → MayCount p t.iri → ShortTag t → Always (Opens p t) (open_node t n)
unfolding open_node
open_node_lem p t n c h =
    always_require (Opens p t) _ _ _ λ e₁.
    always_require (Opens p t) _ _ _ λ e₂.
    always_after (Opens p t) _ _ (c, (subject_of_lem _ t.node_id _ (or_else_lem t.id t.about h.id h.about), omega arith))

abbrev ShortProperty : Property → Type 0
ShortProperty p = ShortSubject p.subject × Short p.iri × Short? p.id

object_of_lem : (r l : Option Bytes) (n : ℕ) → Short? r → Always (λ o. ShortSubject o.0) (O.object_of r l n)
unfolding O.object_of
object_of_lem (some r) l n h = h
object_of_lem none (some l) n h = tt
object_of_lem none none n h = always_after (λ (o : Subject × ℕ). ShortSubject o.0) _ _ tt

abbrev OpensKind : Opened → Type 0
OpensKind o = ShortKind o.kind

open_default_lem : (t : Tag) (p : Property) (n : ℕ) → ShortProperty p → ShortTag t → Always OpensKind (O.open_default t p n)
unfolding O.open_default O.open_with_node
open_default_lem t p n k h =
    always_if OpensKind _ _ _
    (λ e. always_bind (λ o. ShortSubject o.0) OpensKind _ _ (object_of_lem t.resource t.node_id n h.resource) λ o g. (k.0, k.1, k.2, (h.datatype, g)))
    (λ e. (k.0, k.1, k.2, (h.datatype, tt)))

open_as_lem : (a : ParseType) (t : Tag) (p : Property) (n : ℕ) → ShortProperty p → ShortTag t → Always OpensKind (O.open_as a t p n)
unfolding O.open_as O.open_with O.open_resource
open_as_lem no_parse_type t p n k h = open_default_lem t p n k h
open_as_lem as_collection t p n k h = (k.0, k.1, k.2, tt)
open_as_lem as_resource t p n k h = always_after OpensKind _ _ (tt, omega arith)
open_as_lem as_literal t p n k h = (k.0, k.1, k.2, tt)
open_as_lem as_other t p n k h = (k.0, k.1, k.2, tt)

count_test : (i : Bytes) (li : ℕ) → Always (λ u. is_li i ≡ true → li < most_labels) (when is_li i then O.one_more li else good tt)
unfolding O.one_more
count_test i li =
    always_if (λ u. is_li i ≡ true → li < most_labels) _ _ _
    (λ e. always_test _ _ _ λ h g. ltb-true li most_labels h) (λ e g. absurd (false≢true (sym e ∙ g)))

open_property_lem : (t : Tag) (s : Subject) (li n : ℕ) → ShortSubject s → ShortTag t → Always (Opens (properties s li) t) (open_property t s li n)
unfolding open_property
open_property_lem t s li n k h =
    let Q : Opened → Type 0 = Opens (properties s li) t in
    let p : Property = record { subject = s; iri = property_iri t.iri (suc li); id = t.id } in
    let a : ParseType = O.parse_type_of t.parse_type in
    always_require Q _ _ _ λ e₁.
    always_require Q _ _ _ λ e₂.
    always_then (λ u. is_li t.iri ≡ true → li < most_labels) Q _ _ (count_test t.iri li) λ u c.
    always_map OpensKind Q (O.open_as a t p n) (open_as_lem a t p n (k, property_iri_short t.iri li h.iri c, h.id) h) λ o g. (c, g)

open_root_lem : (t : Tag) (n : ℕ) → ShortTag t → Always (Opens outside t) (open_root t n)
unfolding open_root
open_root_lem t n h = always_if (Opens outside t) _ _ _ (λ e. (tt, tt)) (λ e. open_node_lem outside t n tt h)

-- ---- the open elements

record Frames (fs : List Frame) : Type 0 where
  elements : length fs ≤ most_open_elements
  bindings : length (in_scope fs) ≤ most_bindings
  every : All ShortFrame fs

-- an rdf:li is counted
count-length : (i : Bytes) (h : Part → Part) (fs : List Frame) → length (G.count_li i h fs) ≡ length fs
unfolding G.count_li
count-length i h [] = refl
count-length i h (f ∷ fs) = refl

count-scope : (i : Bytes) (h : Part → Part) (fs : List Frame) → in_scope (G.count_li i h fs) ≡ in_scope fs
unfolding G.count_li in_scope with_kind with_part
count-scope i h [] = refl
count-scope i h (f ∷ fs) = refl

count-kind : (i : Bytes) (k : Kind) → MayCount (in_kind k) i → ShortKind k → ShortKind (G.counted i k)
unfolding G.counted in_kind when◌then◌else◌
count-kind i rdf_rdf c h = h
count-kind i (wrapper b) c h = h
count-kind i (node_element s li) c h = (h.0, go (is_li i) refl)
  where
    go : (b : Bool) → is_li i ≡ b → (when b then suc li else li) ≤ most_labels
    go true e = let le : li < most_labels = c e in omega arith
    go false e = h.1
count-kind i (property_element p v) c h = h
count-kind i xml_element c h = h

-- what the profile remembers of a start tag that is short
noted_short : (p : Bool) (t : Tag) → Short? t.about → (q : Part) → ShortPart q → ShortPart (noted p t q)
unfolding noted with_child when◌then◌else◌
noted_short false t a q h = h
noted_short true t a ordinary h = tt
noted_short true t a (top_level none) h = a
noted_short true t a (top_level (some b)) h = h
noted_short true t a (alternatives none) h = go (same t.iri (rdf "li"))
  where
    go : (b : Bool) → ShortPart (when b then alternatives (some (carries t.own_tag)) else alternatives none)
    go true = tt
    go false = tt
noted_short true t a (alternatives (some b)) h = tt

alt_short : (b : Bool) → ShortPart (when b then alternatives none else ordinary)
unfolding when◌then◌else◌
alt_short true = tt
alt_short false = tt

new_short : (p : Bool) (q : Place) (i : Bytes) → ShortPart (new_part p q i)
unfolding new_part when◌then◌else◌
new_short false q i = tt
new_short true outside i = tt
new_short true nodes i = alt_short (same i (rdf "Alt"))
new_short true nodes_or_text i = alt_short (same i (rdf "Alt"))
new_short true (properties s li) i = tt
new_short true xml i = tt

count-every : (i : Bytes) (g : Part → Part) (fs : List Frame) → ((p : Part) → ShortPart p → ShortPart (g p)) → MayCount (place_in fs) i → All ShortFrame fs → All ShortFrame (G.count_li i g fs)
unfolding G.count_li place_in with_kind with_part
count-every i g [] k c h = tt
count-every i g (f ∷ fs) k c h = ((h.0.0, count-kind i f.kind c h.0.1, k f.part h.0.2), h.1)

-- a value is changed
change_length : (g : Value → Value) (fs : List Frame) → length (change_value g fs) ≡ length fs
unfolding change_value when◌then◌else◌
change_length g [] = refl
change_length g (f ∷ fs) = go (is_xml_element f.kind) (change_length g fs)
  where
    go : (b : Bool) → length (change_value g fs) ≡ length fs → length (when b then f ∷ change_value g fs else with_kind (on_value g f.kind) f ∷ fs) ≡ suc (length fs)
    go true e = ap suc e
    go false e = refl

change_scope : (g : Value → Value) (fs : List Frame) → in_scope (change_value g fs) ≡ in_scope fs
unfolding change_value in_scope with_kind when◌then◌else◌
change_scope g [] = refl
change_scope g (f ∷ fs) = go (is_xml_element f.kind) (change_scope g fs)
  where
    go : (b : Bool) → in_scope (change_value g fs) ≡ in_scope fs → in_scope (when b then f ∷ change_value g fs else with_kind (on_value g f.kind) f ∷ fs) ≡ f.bindings ++ in_scope fs
    go true e = rw e
    go false e = refl

-- a change that keeps a value short
abbrev Safe : (Value → Value) → Type 0
Safe g = (v : Value) → ShortValue v → ShortValue (g v)

change_kind : (g : Value → Value) (k : Kind) → Safe g → ShortKind k → ShortKind (on_value g k)
unfolding on_value
change_kind g rdf_rdf s h = h
change_kind g (wrapper b) s h = h
change_kind g (node_element u li) s h = h
change_kind g (property_element p v) s h = (h.0, h.1, h.2, s v h.3)
change_kind g xml_element s h = h

change_every : (g : Value → Value) (fs : List Frame) → Safe g → All ShortFrame fs → All ShortFrame (change_value g fs)
unfolding change_value with_kind when◌then◌else◌
change_every g [] s h = tt
change_every g (f ∷ fs) s h = go (is_xml_element f.kind) (change_every g fs s h.1)
  where
    go : (b : Bool) → All ShortFrame (change_value g fs) → All ShortFrame (when b then f ∷ change_value g fs else with_kind (on_value g f.kind) f ∷ fs)
    go true k = (h.0, k)
    go false k = ((h.0.0, change_kind g f.kind s h.0.1, h.0.2), h.1)

change_frames : (g : Value → Value) (fs : List Frame) → Safe g → Frames fs → Frames (change_value g fs)
change_frames g fs s h = record { elements = rw change_length h.elements; bindings = rw change_scope h.bindings; every = change_every g fs s h.every }

xml_safe : (x : Bytes) → Safe (takes_xml x)
unfolding takes_xml
xml_safe x (default d o) h = h
xml_safe x (collection cs) h = h
xml_safe x (literal y) h = h
xml_safe x other h = h

node_safe : (s : Subject) → ShortSubject s → Safe (C.takes_node s)
unfolding C.takes_node
node_safe s k (default d o) h = (h.0, k)
node_safe s k (collection cs) h = (k, h)
node_safe s k (literal x) h = h
node_safe s k other h = h

text_safe : (s : Bytes) → Safe (X.takes_text s)
unfolding X.takes_text
text_safe s (default d o) h = (h.0, tt)
text_safe s (collection cs) h = h
text_safe s (literal x) h = h
text_safe s other h = h

-- ---- every change that an event can make

-- what each change keeps
record Kept (d : Doc) : Type 0 where
  base : Short? d.start_base
  ids : All Short d.ids
  open_frames : Frames d.frames

with_frames_lem : (d : Doc) (fs : List Frame) → Kept d → Frames fs → Kept (with_frames fs d)
unfolding with_frames
with_frames_lem d fs h k = record { base = h.base; ids = h.ids; open_frames = k }

enter_short : (i : Option Bytes) (ids : List Bytes) → Short? i → All Short ids → All Short (G.enter i ids)
unfolding G.enter
enter_short none ids h k = k
enter_short (some i) ids h k = (h, k)

record Counts (as' : List Attribute) (fs : List Frame) : Type 0 where
  elements : suc (length fs) ≤ most_open_elements
  bindings : length (declared as' ++ in_scope fs) ≤ most_bindings

counts_fit_lem : (as' : List Attribute) (fs : List Frame) → G.counts_fit as' fs ≡ true → Counts as' fs
unfolding G.counts_fit
counts_fit_lem as' fs h =
    let a : Bool = leb (suc (length fs)) most_open_elements in
    let b : Bool = leb (length as') most_attributes in
    let c : Bool = leb (length (declared as' ++ in_scope fs)) most_bindings in
    record {
      elements = leb-true (suc (length fs)) most_open_elements (and_left a (b && c) h);
      bindings = leb-true (length (declared as' ++ in_scope fs)) most_bindings (and_right b c (and_right a (b && c) h));
    }

-- a property's subject is the subject of the node around it
abbrev ShortPlace : Place → Type 0
ShortPlace outside = Unit {0}
ShortPlace nodes = Unit {0}
ShortPlace nodes_or_text = Unit {0}
ShortPlace xml = Unit {0}
ShortPlace (properties s li) = ShortSubject s

in_value_lem : (v : Value) → ShortPlace (in_value v)
unfolding in_value
in_value_lem (default d o) = tt
in_value_lem (collection cs) = tt
in_value_lem (literal x) = tt
in_value_lem other = tt

in_kind_lem : (k : Kind) → ShortKind k → ShortPlace (in_kind k)
unfolding in_kind
in_kind_lem rdf_rdf h = tt
in_kind_lem (wrapper b) h = tt
in_kind_lem (node_element s li) h = h.0
in_kind_lem (property_element p v) h = in_value_lem v
in_kind_lem xml_element h = tt

place_in_lem : (fs : List Frame) → All ShortFrame fs → ShortPlace (place_in fs)
unfolding place_in
place_in_lem [] h = tt
place_in_lem (f ∷ fs) h = in_kind_lem f.kind h.0.1

produced : (p : Place) (t : Tag) (n : ℕ) (o : Opened) → ShortPlace p → ShortTag t → Produces p t n o → Opens p t o
produced outside t n o k s q = always_good (Opens outside t) (open_root_lem t n s) q
produced nodes t n o k s q = always_good (Opens nodes t) (open_node_lem nodes t n tt s) q
produced nodes_or_text t n o k s q = always_good (Opens nodes_or_text t) (open_node_lem nodes_or_text t n tt s) q
produced (properties u li) t n o k s q = always_good (Opens (properties u li) t) (open_property_lem t u li n k s) q
produced xml t n o k s q = absurd q

open_kept : (m : Bytes) (as' : List Attribute) (d : Doc) (t : Tag) (o : Opened) → Kept d → Counts as' d.frames → read_tag m as' d ≡ good t
    → Produces (place_in d.frames) t d.labels o → ShortTag t → Kept (G.opened t d o).1
unfolding G.opened in_scope
open_kept m as' d t o h c r q s =
    let e : t.bindings ≡ declared as' = always_good (λ (x : Tag). x.bindings ≡ declared as') (tag_bindings m as' d) r in
    let p : Opens (place_in d.frames) t o = produced (place_in d.frames) t d.labels o (place_in_lem d.frames h.open_frames.every) s q in
    record {
      base = h.base;
      ids = enter_short t.id d.ids s.id h.ids;
      open_frames = record {
        elements = rw count-length c.elements;
        bindings = rw (e, count-scope) c.bindings;
        every = ((s.own_base, p.1, new_short d.mode.xmp (place_in d.frames) t.iri), count-every t.iri _ d.frames (noted_short d.mode.xmp t s.about) p.0 h.open_frames.every);
      };
    }

copy_frames : (m : Bytes) (as' : List Attribute) (x : Bytes) (fs : List Frame) → Counts as' fs → Frames fs → Frames (copy m as' ∷ change_value (takes_xml x) fs)
unfolding in_scope
copy_frames m as' x fs c h = record {
  elements = rw change_length c.elements;
  bindings = rw change_scope c.bindings;
  every = ((tt, tt, tt), change_every (takes_xml x) fs (xml_safe x) h.every);
}

wrap_kept : (m : Bytes) (as' : List Attribute) (d : Doc) → Counts as' d.frames → Kept d → Kept (wrapped m as' d)
unfolding wrapped in_scope
wrap_kept m as' d c h =
    record { base = h.base; ids = h.ids; open_frames = record { elements = c.elements; bindings = c.bindings; every = ((tt, tt, tt), h.open_frames.every) } }

-- an element that closes leaves fewer
fewer : (f : Frame) (fs : List Frame) → Frames (f ∷ fs) → Frames fs
unfolding in_scope
fewer f fs h =
    let e : length (f ∷ fs) ≤ most_open_elements = h.elements in
    let b : length (f.bindings ++ in_scope fs) ≤ most_bindings = h.bindings in
    record {
      elements = omega arith;
      bindings = omega (arith, length-append f.bindings (in_scope fs));
      every = h.every.1;
    }

-- the frames without the element that closes, and its kind
without : (d : Doc) (f : Frame) (fs : List Frame) → d.frames ≡ f ∷ fs → Kept d → Frames fs × ShortKind f.kind
without d f fs is h = let k : Frames (f ∷ fs) = rw is at h.open_frames in (fewer f fs k, k.every.0.1)

kept : {d d' : Doc} {us : List Triple} → Change d us d' → Kept d → Kept d'
unfolding with_labels
kept stays h = h
kept {d} (takes_text_lem v e) h = with_frames_lem d _ h (change_frames (X.takes_text v) d.frames (text_safe v) h.open_frames)
kept {d} (takes_xml_lem x e) h = with_frames_lem d _ h (change_frames (takes_xml x) d.frames (xml_safe x) h.open_frames)
kept {d} (copies m as' x e c) h = with_frames_lem d _ h (copy_frames m as' x d.frames (counts_fit_lem as' d.frames c) h.open_frames)
kept {d} (opens m as' t o z c r g q s) h = open_kept m as' d t o h (counts_fit_lem as' d.frames c) r q (short_tag t s)
kept {d} (wraps m as' z p e c) h = wrap_kept m as' d (counts_fit_lem as' d.frames c) h
kept {d} (ends_root f fs is k) h = with_frames_lem d fs h (without d f fs is h).0
kept {d} (ends_wrapper f fs b is k) h = with_frames_lem d fs h (without d f fs is h).0
kept {d} (ends_node f fs s li is k) h =
    let w = without d f fs is h in
    let short : ShortKind (node_element s li) = rw k at w.1 in
    with_frames_lem d _ h (change_frames (C.takes_node s) fs (node_safe s short.0) w.0)
kept {d} (ends_property f fs p v l ws n is k q) h =
    let w : Kept (with_frames fs d) = with_frames_lem d fs h (without d f fs is h).0 in
    record { base = w.base; ids = w.ids; open_frames = w.open_frames }
kept {d} (ends_xml f fs x is k) h = with_frames_lem d _ h (change_frames (takes_xml x) fs (xml_safe x) (without d f fs is h).0)

-- ---- the theorem

-- what is judged last, behind every event
record Fits (d : Doc) : Type 0 where
  id_count : length d.ids ≤ most_ids
  id_bytes : total length d.ids ≤ most_id_bytes
  held : held_bytes d ≤ most_held_bytes

fits_true : (d : Doc) → fits d ≡ true → Fits d
unfolding fits
fits_true d h =
    let a : Bool = leb (length d.ids) most_ids in
    let b : Bool = leb (total length d.ids) most_id_bytes in
    let c : Bool = leb (held_bytes d) most_held_bytes in
    record {
      id_count = leb-true (length d.ids) most_ids (and_left a (b && c) h);
      id_bytes = leb-true (total length d.ids) most_id_bytes (and_left b c (and_right a (b && c) h));
      held = leb-true (held_bytes d) most_held_bytes (and_right b c (and_right a (b && c) h));
    }

start_fits : (m : Mode) (b : Option Bytes) → Short? b → Fits (fresh m b)
unfolding fresh D.all
start_fits m none h = record { id_count = omega arith; id_bytes = omega arith; held = omega arith }
start_fits m (some b) h = let le : length b ≤ 1_024 = h in record { id_count = omega arith; id_bytes = omega arith; held = omega arith }

start_kept : (m : Mode) (b : Option Bytes) → Short? b → Kept (fresh m b)
unfolding fresh most_open_elements most_bindings in_scope
start_kept m b s = record { base = s; ids = tt; open_frames = record { elements = omega arith; bindings = omega arith; every = tt } }

-- From a start with no base or a short one, all limits hold of what is kept behind every accepted event.
pub always_within : (m : Mode) (b : Option Bytes) (d : Doc) (ts : List Triple) → Short? b → After (fresh m b) d ts → Within d
unfolding fresh most_labels
always_within m b d ts s h =
    let k : Kept d × Fits d = always_holds (λ d. Kept d × Fits d) (λ d d' us c f k. (kept c k.0, fits_true d' f)) (start_kept m b s, start_fits m b s) h in
    let le : d.labels < 100_000_000 = bound_after (fresh m b) d ts (omega arith) h in
    record {
      elements = k.0.open_frames.elements;
      bindings = k.0.open_frames.bindings;
      id_count = k.1.id_count;
      id_bytes = k.1.id_bytes;
      held = k.1.held;
      labels = omega arith;
      base = k.0.base;
      every_id = k.0.ids;
      every_frame = k.0.open_frames.every;
    }

-- ---- one open element

total-each : (n : ℕ) (fs : List Frame) → total frame_bytes fs ≤ n → All (λ f. frame_bytes f ≤ n) fs
unfolding total
total-each n [] h = tt
total-each n (f ∷ fs) h = (omega arith, total-each n fs (omega arith))

-- names as written, tags, labels and text have no limit of their own: what each open element holds is within the held bytes
pub each-held : (d : Doc) → Within d → All (λ f. frame_bytes f ≤ most_held_bytes) d.frames
unfolding held_bytes
each-held d h = let le : held_bytes d ≤ most_held_bytes = h.held in total-each most_held_bytes d.frames (omega arith)

-- so many children has a Collection at most, by its bytes
pub children-held : (cs : List Subject) → 4 * length cs ≤ value_bytes (collection cs)
unfolding value_bytes total
children-held [] = omega arith
children-held (c ∷ cs) = omega (arith, children-held cs)

-- ---- by calls

may_start_short : (lengths : Bool) (b : Option Bytes) → Always (λ u. Short? b) (may_start lengths b)
unfolding may_start
may_start_short lengths none = always_test _ _ _ λ e. tt
may_start_short lengths (some b) =
    always_require _ _ _ _ λ e₁.
    always_require _ _ _ _ λ e₂.
    always_test _ _ _ λ e₃. leb-true (length b) most_name_bytes e₃

-- an accepted start had no base or a short one
pub start_short : (lengths : Bool) (m : Mode) (b : Option Bytes) (t : State) → (call_start lengths m b t).answer ≡ 0 → Short? b
unfolding call_start started refused
start_short lengths m b t h = go (may_start lengths b) (may_start_short lengths b) h
  where
    go : (a : Answer (Unit {0})) → Always (λ u. Short? b) a → (started m b t a).answer ≡ 0 → Short? b
    go (refuse r) s h = absurd (number_positive r h)
    go (good u) s h = s

-- open or closed, the document is within all limits; no state against the rules is reached
abbrev pub WithinState : State → Type 0
WithinState (is_open d) = Within d
WithinState (is_closed d) = Within d
WithinState unlawful = ⊥

-- From an accepted start, all limits hold of what is kept behind every step, whatever bytes and room the steps are given.
pub steps-within : (lengths : Bool) (m : Mode) (b : Option Bytes) (t₀ t : State) (w : Bytes) → (call_start lengths m b t₀).answer ≡ 0 → Steps m b t w → WithinState t
steps-within lengths m b t₀ (is_open d) w h k = let r = written m b (is_open d) w k in always_within m b d r.0 (start_short lengths m b t₀ h) r.1
steps-within lengths m b t₀ (is_closed d) w h k = let r = written m b (is_closed d) w k in always_within m b d r.0 (start_short lengths m b t₀ h) r.1
steps-within lengths m b t₀ unlawful w h k = always_lawful m b w k
