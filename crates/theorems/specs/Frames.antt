-- What an accepted event does to the open elements: a start tag puts one on top, an end tag takes the top one away, and those
-- below keep all but what they hold.
use Rattle.std.specs.Prelude.{◌≡◌, ◌⊎◌, Bool, true, false, List, [], ◌∷◌, ◌++◌, ℕ, suc, length}
use Rattle.std.proofs.Math.Path.{refl}
use Rattle.std.proofs.Common.{ap, inl, inr, arith}
use Rattle.spec.specs.Bytes.{Bytes, each, when◌then◌else◌}
use Rattle.spec.specs.Numbers.{Answer, good}
use Rattle.spec.specs.Pyx.{Attribute, Event, opening, closing, text, instruction}
use Rattle.spec.specs.Namespaces.{Binding, declared, expand_element}
use Rattle.spec.specs.NTriples.{Subject}
use Rattle.spec.specs.Document.{Value, default, collection, literal, other, Property, Kind, rdf_rdf, wrapper, node_element, property_element, xml_element, Part, Frame, Doc, with_frames, with_labels, in_scope, language_in_force, Place, outside, nodes, nodes_or_text, xml, properties, place_in, change_value, is_xml_element, on_value, with_kind}
use Rattle.spec.specs.XmlLang.{Language, own_of, in_force}
use Rattle.spec.specs.StartTag.{Meaning, xml_lang, meaning, first, Tag, read_tag}
use Rattle.spec.specs.Productions as O
use Rattle.spec.specs.Productions.{Opened, open_node, open_property, open_root, ParseType, no_parse_type, as_collection, as_resource, as_literal, as_other}
use Rattle.spec.specs.XmlLiteral.{takes_xml, add_xml, end_tag_xml}
use Rattle.spec.specs.Xmp.{open_wrapper, wrapped}
use Rattle.spec.specs.Opening.{Step, is_xml, count_li}
use Rattle.spec.specs.Opening as G
use Rattle.spec.specs.EndTag.{takes_node}
use Rattle.spec.specs.EndTag as C
use Rattle.spec.specs.RdfXml.{takes_text, next}
use Rattle.spec.specs.RdfXml as X
use Rattle.theorems.specs.Always.{Always, always_bind, always_any, always_after, always_require, always_if, always_self, always_map}
use Rattle.theorems.specs.Rules.{always_rules, Wrapping, wrapping}

-- what text does to what a property holds
pub data Gentle : (Value → Value) → Type 0 where
  by_text : (s : Bytes) → Gentle (takes_text s)
  by_xml : (x : Bytes) → Gentle (takes_xml x)

-- what is left open behind the end tag of an element of this kind and name
abbrev pub left : Kind → Bytes → List Frame → List Frame
left rdf_rdf n fs = fs
left (wrapper b) n fs = fs
left (node_element s li) n fs = change_value (takes_node s) fs
left (property_element p v) n fs = fs
left xml_element n fs = change_value (takes_xml (end_tag_xml n)) fs

pub value-length : (h : Value → Value) (fs : List Frame) → length (change_value h fs) ≡ length fs
unfolding change_value when◌then◌else◌
value-length h [] = refl
value-length h (f ∷ fs) = go (is_xml_element f.kind) (value-length h fs)
  where
    go : (t : Bool) → length (change_value h fs) ≡ length fs → length (when t then f ∷ change_value h fs else with_kind (on_value h f.kind) f ∷ fs) ≡ suc (length fs)
    go true e = ap suc e
    go false e = refl

count-length : (i : Bytes) (h : Part → Part) (fs : List Frame) → length (count_li i h fs) ≡ length fs
unfolding count_li
count-length i h [] = refl
count-length i h (f ∷ fs) = refl

pub left-length : (k : Kind) (n : Bytes) (fs : List Frame) → length (left k n fs) ≡ length fs
left-length rdf_rdf n fs = refl
left-length (wrapper b) n fs = refl
left-length (node_element s li) n fs = value-length _ fs
left-length (property_element p v) n fs = refl
left-length xml_element n fs = value-length _ fs

-- what a start tag outside Literal content opens: it has had no rdf:li, no child, no text, no rdf:RDF
abbrev NewValue : Value → Type 0
NewValue (default d o) = Unit {0}
NewValue (collection cs) = cs ≡ []
NewValue (literal x) = x ≡ []
NewValue other = Unit {0}

abbrev pub New : Kind → Type 0
New rdf_rdf = Unit {0}
New (wrapper b) = b ≡ false
New (node_element s li) = li ≡ 0
New (property_element p v) = NewValue v
New xml_element = ⊥

pub new-outside : (k : Kind) → New k → is_xml_element k ≡ false
unfolding is_xml_element
new-outside rdf_rdf h = refl
new-outside (wrapper b) h = refl
new-outside (node_element s li) h = refl
new-outside (property_element p v) h = refl
new-outside xml_element h = absurd h

-- the open elements before and behind an event
pub data Move : Event → List Frame → List Frame → Type 0 where
  instructs : {fs : List Frame} → Move instruction fs fs
  leaves : {s : Bytes} {fs : List Frame} → Move (text s) fs fs
  adds : {s : Bytes} {g : Value → Value} {fs : List Frame} → Gentle g → Move (text s) fs (change_value g fs)
  opens : {n : Bytes} {as' : List Attribute} {f : Frame} {fs : List Frame} (i : Bytes) (h : Part → Part)
      → expand_element (declared as' ++ in_scope fs) n ≡ good i → New f.kind → Move (opening n as') fs (f ∷ count_li i h fs)
  copies : {n : Bytes} {as' : List Attribute} {f : Frame} {fs : List Frame} (x : Bytes)
      → is_xml (place_in fs) ≡ true → f.kind ≡ xml_element → Move (opening n as') fs (f ∷ change_value (takes_xml x) fs)
  closes : {n : Bytes} {f : Frame} {fs : List Frame} → Move (closing n) (f ∷ fs) (left f.kind n fs)

-- the element that a start tag opens, above as many as before
abbrev pub OnTop : List Frame → List Frame → Type 0
OnTop fs frames = (f : Frame) × (gs : List Frame) × (frames ≡ f ∷ gs) × (length gs ≡ length fs) × (New f.kind ⊎ (f.kind ≡ xml_element))

pub on_top : {n : Bytes} {as' : List Attribute} {fs frames : List Frame} → Move (opening n as') fs frames → OnTop fs frames
on_top (opens {f = f} {fs = fs} i h e c) = (f, count_li i h fs, refl, count-length i h fs, inl c)
on_top (copies {f = f} {fs = fs} x c k) = (f, change_value (takes_xml x) fs, refl, value-length _ fs, inr k)

-- an event's step is such a move, and leaves the start base
abbrev pub Moved : Doc → Event → Step → Type 0
Moved d e s = Move e d.frames s.1.frames × (s.1.start_base ≡ d.start_base)

-- ---- start tags

-- the bindings in scope in a start tag
abbrev pub scope_of : List Attribute → Doc → List Binding
scope_of as' d = declared as' ++ in_scope d.frames

-- a start tag, read: its expanded name, its own xml:lang among its attributes, and the language in force in it
abbrev pub Read : Bytes → List Attribute → Doc → Tag → Type 0
Read n as' d t =
    (expand_element (scope_of as' d) n ≡ good t.iri)
    × ((ms : List Meaning) × (each (meaning (scope_of as' d)) as' ≡ good ms) × (t.own_tag ≡ own_of (first xml_lang ms)))
    × (t.language ≡ in_force t.own_tag (language_in_force d.frames))

pub tag_read : (n : Bytes) (as' : List Attribute) (d : Doc) → Always (Read n as' d) (read_tag n as' d)
unfolding read_tag
tag_read n as' d =
    always_bind (λ i. expand_element (scope_of as' d) n ≡ good i) (Read n as' d) _ _ (always_self (expand_element (scope_of as' d) n)) λ i e.
    always_bind (λ ms. each (meaning (scope_of as' d)) as' ≡ good ms) (Read n as' d) _ _ (always_self (each (meaning (scope_of as' d)) as')) λ ms g.
    always_any (Read n as' d) _ _ λ id'.
    always_require (Read n as' d) _ _ _ λ u.
    always_any (Read n as' d) _ _ λ about'.
    always_any (Read n as' d) _ _ λ resource'.
    always_any (Read n as' d) _ _ λ datatype'.
    always_any (Read n as' d) _ _ λ type'. (e, (ms, g, refl), refl)

abbrev Begins : Opened → Type 0
Begins o = New o.kind

node-begins : (t : Tag) (n : ℕ) → Always Begins (open_node t n)
unfolding open_node
node-begins t n = always_require Begins _ _ _ λ e₁. always_require Begins _ _ _ λ e₂. always_after Begins _ _ refl

as_begins : (a : ParseType) (t : Tag) (p : Property) (n : ℕ) → Always Begins (O.open_as a t p n)
unfolding O.open_as O.open_with O.open_default O.open_with_node O.open_resource
as_begins no_parse_type t p n = always_if Begins _ _ _ (λ e. always_any Begins _ _ λ o. tt) λ e. tt
as_begins as_collection t p n = refl
as_begins as_resource t p n = always_after Begins _ _ refl
as_begins as_literal t p n = refl
as_begins as_other t p n = tt

property-begins : (t : Tag) (s : Subject) (li n : ℕ) → Always Begins (open_property t s li n)
unfolding open_property
property-begins t s li n =
    always_require Begins _ _ _ λ e₁. always_require Begins _ _ _ λ e₂. always_after Begins _ _ (as_begins _ t _ n)

root-begins : (t : Tag) (n : ℕ) → Always Begins (open_root t n)
unfolding open_root
root-begins t n = always_if Begins _ _ _ (λ e. tt) λ e. node-begins t n

-- with no element open, one on top is all
on_bottom : {n : Bytes} {as' : List Attribute} {f : Frame} (fs : List Frame) (i : Bytes) → fs ≡ [] → expand_element (declared as' ++ in_scope fs) n ≡ good i → New f.kind
    → Move (opening n as') fs (f ∷ fs)
unfolding count_li
on_bottom {n} {as'} {f} [] i e x k = opens i (λ p. p) x k
on_bottom {n} {as'} {f} (g ∷ fs) i e x k = let z : ◌≡◌ {A = ℕ} 0 1 = cc in absurd (omega arith)

module _ (n : Bytes) (as' : List Attribute) (d : Doc) where
  abbrev Opens : Step → Type 0
  Opens = Moved d (opening n as')

  open_element_lem : (production : Tag → ℕ → Answer Opened) → ((t : Tag) → Always Begins (production t d.labels)) → Always Opens (G.open_element production n as' d)
  unfolding G.open_element G.opened
  open_element_lem production h =
      always_bind (Read n as' d) Opens _ _ (tag_read n as' d) λ t r.
      always_bind Begins Opens _ _ (always_rules Begins _ _ (h t)) λ o k.
      always_require Opens _ _ _ λ e. (opens t.iri _ r.0 k, refl)

  open_in_lem : (p : Place) → place_in d.frames ≡ p → Always Opens (G.open_in p n as' d)
  unfolding G.open_in G.copy_element open_wrapper wrapped add_xml with_frames is_xml
  open_in_lem outside e =
      always_if Opens _ _ _
      (λ w. let u : Wrapping d.mode.xmp n as' d.frames = wrapping d.mode.xmp n as' d.frames w in
      always_after Opens _ _ (always_after Opens _ _ (on_bottom d.frames u.iri u.outermost u.expands refl, refl)))
      λ w. open_element_lem open_root λ t. root-begins t d.labels
  open_in_lem nodes e = open_element_lem open_node λ t. node-begins t d.labels
  open_in_lem nodes_or_text e = open_element_lem open_node λ t. node-begins t d.labels
  open_in_lem (properties s li) e = open_element_lem (λ t. open_property t s li) λ t. property-begins t s li d.labels
  open_in_lem xml e = always_require Opens _ _ _ λ g. always_after Opens _ _ (copies _ (rw e refl) refl, refl)

-- ---- end tags and text

-- the step behind an end tag, on a document without the element
abbrev Leaves : Kind → Bytes → Doc → Step → Type 0
Leaves k n d s = (s.1.frames ≡ left k n d.frames) × (s.1.start_base ≡ d.start_base)

end_value_lem : (p : Property) (v : Value) (n : Bytes) (l : Language) (d : Doc) → Always (Leaves (property_element p v) n d) (C.end_value p v l d)
unfolding C.end_value with_labels
end_value_lem p (default t o) n l d = (refl, refl)
end_value_lem p (collection cs) n l d = always_after (Leaves (property_element p (collection cs)) n d) _ _ (refl, refl)
end_value_lem p (literal x) n l d = always_after (Leaves (property_element p (literal x)) n d) _ _ (refl, refl)
end_value_lem p other n l d = (refl, refl)

end_kind_lem : (k : Kind) (n : Bytes) (l : Language) (d : Doc) → Always (Leaves k n d) (C.end_kind k n l d)
unfolding C.end_kind with_frames add_xml
end_kind_lem rdf_rdf n l d = (refl, refl)
end_kind_lem (wrapper b) n l d = always_after (Leaves (wrapper b) n d) _ _ (refl, refl)
end_kind_lem (node_element s li) n l d = (refl, refl)
end_kind_lem (property_element p v) n l d = end_value_lem p v n l d
end_kind_lem xml_element n l d = (refl, refl)

abbrev Closes : Bytes → List Frame → Doc → Step → Type 0
Closes n fs d s = Move (closing n) fs s.1.frames × (s.1.start_base ≡ d.start_base)

close_element_lem : (n : Bytes) (fs : List Frame) (d : Doc) → Always (Closes n fs d) (C.close_element n fs d)
unfolding C.close_element with_frames
close_element_lem n [] d = tt
close_element_lem n (f ∷ fs) d =
    always_require (Closes n (f ∷ fs) d) _ _ _ λ e.
    always_map (Leaves f.kind n (with_frames fs d)) (Closes n (f ∷ fs) d) (C.end_kind f.kind n (language_in_force (f ∷ fs)) (with_frames fs d))
    (end_kind_lem f.kind n (language_in_force (f ∷ fs)) (with_frames fs d)) λ s h. (rw h.0 closes, h.1)

on_text_lem : (s : Bytes) (d : Doc) (p : Place) → Always (Moved d (text s)) (X.on_text p s d)
unfolding X.on_text with_frames when◌then◌else◌ add_xml
on_text_lem s d outside = always_after (Moved d (text s)) _ _ (leaves, refl)
on_text_lem s d nodes = always_after (Moved d (text s)) _ _ (leaves, refl)
on_text_lem s d (properties u li) = always_after (Moved d (text s)) _ _ (leaves, refl)
on_text_lem s d nodes_or_text = go (X.is_blank s)
  where
    go : (b : Bool) → Moved d (text s) ([], (when b then d else with_frames (change_value (takes_text s) d.frames) d))
    go true = (leaves, refl)
    go false = (adds (by_text s), refl)
on_text_lem s d xml = (adds (by_xml _), refl)

-- ---- all events

on_event_lem : (e : Event) (d : Doc) → Always (Moved d e) (X.on_event e d)
unfolding X.on_event G.on_opening
on_event_lem (opening n as') d =
    always_require (Moved d (opening n as')) _ _ _ λ e₁.
    always_require (Moved d (opening n as')) _ _ _ λ e₂. open_in_lem n as' d (place_in d.frames) refl
on_event_lem (closing n) d = close_element_lem n d.frames d
on_event_lem (text s) d = on_text_lem s d (place_in d.frames)
on_event_lem instruction d = (instructs, refl)

-- what always holds behind an event, before the limits on what is kept
pub always_next : (Q : Step → Type 0) (e : Event) (d : Doc) → Always Q (X.on_event e d) → Always Q (next e d)
unfolding next X.within
always_next Q e d h = always_bind Q Q _ _ h λ s k. always_require Q _ _ _ λ g. k

-- every accepted event is such a move
pub moves : (e : Event) (d : Doc) → Always (Moved d e) (next e d)
moves e d = always_next (Moved d e) e d (on_event_lem e d)
