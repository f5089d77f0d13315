-- Every literal without datatype that an event writes has the language in force where it stands, which is that of the nearest
-- xml:lang around it.
use Rattle.std.specs.Prelude.{◌≡◌, refl, Bool, true, false, ◌&&◌, not, List, [], ◌∷◌, ◌++◌, ℕ}
use Rattle.std.proofs.Common.{sym, ◌∙◌, ap, arith, suc}
use Rattle.std.proofs.lemmas.Bool.{false≢true, not-true}
use Rattle.std.proofs.Math.Option.{Option, none, some}
use Prim.Native.String.{String}
use Rattle.spec.specs.Bytes.{Bytes, ascii, when◌then◌else◌, same, begins, is_empty, each, All}
use Rattle.spec.specs.Numbers.{Answer, good}
use Rattle.spec.specs.Pyx.{Attribute, attribute, Event, opening, closing, text, instruction}
use Rattle.spec.specs.NTriples.{Subject, blank, Term, node, Triple, triple}
use Rattle.spec.specs.Document.{Object, no_object, node_object, text_object, Value, default, collection, literal, other, Property, Kind, rdf_rdf, wrapper, node_element, property_element, xml_element, Frame, Doc, with_frames, Place, outside, nodes, nodes_or_text, xml, properties, place_in, language_in_force}
use Rattle.spec.specs.Rfc5646.{is_language_tag}
use Rattle.spec.specs.Rfc5646 as L
use Rattle.spec.specs.declared.Verdict.{Verdict}
use Rattle.spec.specs.declared.Verdict.TheVariants.{Good, Clears, Bad}
use Rattle.spec.specs.XmlLang.{Language, no_language, language, spoken, verdict, said_by, Own, unsaid, cleared, own_of, in_force}
use Rattle.spec.specs.StartTag.{Role, nothing, xml_lang, xml_base, same_role, role_number, rdf_roles, role_among, role_of, Meaning, means, meaning, first, Tag}
use Rattle.spec.specs.Namespaces.{Binding, is_declaration}
use Rattle.spec.specs.Namespaces as N
use Rattle.spec.specs.Rdf.{rdf}
use Rattle.spec.specs.Productions as O
use Rattle.spec.specs.Productions.{Opened, literal_of, statement, type_line, attribute_lines, tag_lines, open_node, open_property, open_root, ParseType, no_parse_type, as_collection, as_resource, as_literal, as_other}
use Rattle.spec.specs.Opening.{Step, count_li}
use Rattle.spec.specs.Opening as G
use Rattle.spec.specs.EndTag.{cells, object_term}
use Rattle.spec.specs.NTriples.{label}
use Rattle.spec.specs.EndTag as C
use Rattle.spec.specs.RdfXml.{next}
use Rattle.spec.specs.RdfXml as X
use Rattle.spec.specs.Languages.{InLanguage, AllInLanguage, open_at, value_named, is_mute, language_behind}
use Rattle.spec.specs.Inside.{Element}
use Rattle.spec.specs.XmlLiteral.{add_xml}
use Rattle.spec.proofs.Booleans.{and_left, and_right}
use Rattle.spec.proofs.Bytes.{same_true}
use Rattle.spec.specs.Xmp.{starts_wrapper, open_wrapper, wrapped, noted}
use Rattle.theorems.specs.Rules.{always_rules}
use Rattle.theorems.specs.Always.{Always, always_bind, always_any, always_after, always_require, always_if, always_map, always_good}
use Rattle.theorems.specs.Frames.{scope_of, Read, tag_read, always_next}
use Rattle.theorems.specs.Inherited.{said-count, said-value, same-language, last-language}

-- ---- lines

all_append : (l : Language) (ts us : List Triple) → AllInLanguage l ts → AllInLanguage l us → AllInLanguage l (ts ++ us)
all_append l [] us h k = k
all_append l (triple s p o ∷ ts) us h k = (h.0, all_append l ts us h.1 k)

literal_in : (d : Option Bytes) (l : Language) (v : Bytes) → InLanguage l (literal_of d l v)
unfolding literal_of spoken
literal_in (some d) l v = tt
literal_in none (language t) v = refl
literal_in none no_language v = refl

attributes_in : (s : Subject) (l : Language) (as' : List (Bytes × Bytes)) → AllInLanguage l (attribute_lines s l as')
unfolding attribute_lines
attributes_in s l [] = tt
attributes_in s l (a ∷ as') = (literal_in none l a.1, attributes_in s l as')

type_in : (s : Subject) (l : Language) (i : Option Bytes) → AllInLanguage l (type_line s i)
unfolding type_line
type_in s l none = tt
type_in s l (some i) = (tt, tt)

tag_in : (s : Subject) (t : Tag) → AllInLanguage t.language (tag_lines s t)
unfolding tag_lines
tag_in s t = all_append t.language (attribute_lines s t.language t.attributes) _ (attributes_in s t.language t.attributes) (type_in s t.language t.type)

reification_in : (l : Language) (i : Option Bytes) (s : Subject) (p : Bytes) (o : Term) → InLanguage l o → AllInLanguage l (O.reification i s p o)
unfolding O.reification
reification_in l none s p o h = tt
reification_in l (some i) s p o h = (tt, (tt, (tt, (h, tt))))

statement_in : (l : Language) (p : Property) (o : Term) → InLanguage l o → AllInLanguage l (statement p o)
unfolding statement
statement_in l p o h = all_append l (O.reification p.id p.subject p.iri o) _ (reification_in l p.id p.subject p.iri o h) (h, tt)

cells_in : (l : Language) (n : ℕ) (rest : Subject) (cs : List Subject) → AllInLanguage l (cells n rest cs)
unfolding cells
cells_in l n rest [] = tt
cells_in l n rest (c ∷ cs) = (tt, (tt, cells_in l (suc n) (blank (label (suc n))) cs))

-- ---- the language that a start tag gives

-- an attribute is for the language exactly when it is written `xml:lang`
abbrev Says : Attribute → Meaning → Type 0
Says (attribute n v) (means q i w) = (same_role xml_lang q ≡ same n (ascii "xml:lang")) × (w ≡ v)

none_is_lang : List (String × Role) → Bool
none_is_lang [] = true
none_is_lang (r ∷ rs) = not (same_role xml_lang r.1) && none_is_lang rs

among_none : (rs : List (String × Role)) (i : Bytes) → none_is_lang rs ≡ true → same_role xml_lang (role_among rs i) ≡ false
unfolding none_is_lang role_among same_role role_number when◌then◌else◌
among_none [] i h = refl
among_none (r ∷ rs) i h =
    go (same i (rdf r.0)) (not-true (same_role xml_lang r.1) (and_left _ (none_is_lang rs) h)) (among_none rs i (and_right (not (same_role xml_lang r.1)) (none_is_lang rs) h))
  where
    go : (b : Bool) → same_role xml_lang r.1 ≡ false → same_role xml_lang (role_among rs i) ≡ false → same_role xml_lang (when b then r.1 else role_among rs i) ≡ false
    go true e k = e
    go false e k = k

rdf_none : none_is_lang rdf_roles ≡ true
unfolding none_is_lang rdf_roles same_role role_number
rdf_none = refl

pub role_language : (n i : Bytes) → same_role xml_lang (role_of n i) ≡ same n (ascii "xml:lang")
unfolding role_of same_role role_number when◌then◌else◌
role_language n i = go (same n (ascii "xml:lang")) (same n (ascii "xml:base")) (begins (ascii "xml") n)
  where
    go : (a b c : Bool) → same_role xml_lang (when a then xml_lang else when b then xml_base else when c then nothing else role_among rdf_roles i) ≡ a
    go true b c = refl
    go false true c = refl
    go false false true = refl
    go false false false = among_none rdf_roles i rdf_none

declaration_none : (n v : Bytes) → is_declaration (attribute n v) ≡ true → same n (ascii "xml:lang") ≡ false
unfolding is_declaration N.all
declaration_none n v h = go (same n (ascii "xml:lang")) refl
  where
    go : (b : Bool) → same n (ascii "xml:lang") ≡ b → b ≡ false
    go true e = absurd (false≢true (rw (same_true n (ascii "xml:lang") e) at h))
    go false e = refl

meaning-says : (bs : List Binding) (a : Attribute) → Always (Says a) (meaning bs a)
unfolding meaning same_role role_number
meaning-says bs (attribute n v) =
    always_if (Says (attribute n v)) _ _ _ (λ e. (sym (declaration_none n v e), refl)) λ e.
    always_any (Says (attribute n v)) _ _ λ i. always_after (Says (attribute n v)) _ _ (role_language n i, refl)

pub attributes_say : (bs : List Binding) (as' : List Attribute) → Always (λ ms. first xml_lang ms ≡ value_named (ascii "xml:lang") as') (each (meaning bs) as')
unfolding each first value_named
attributes_say bs [] = refl
attributes_say bs (attribute n v ∷ as') =
    always_bind (Says (attribute n v)) All _ _ (meaning-says bs (attribute n v)) λ m h.
    always_bind (λ ms. first xml_lang ms ≡ value_named (ascii "xml:lang") as') All _ _ (attributes_say bs as') λ ms k. go m ms h k
  where
    All : List Meaning → Type 0
    All ms = first xml_lang ms ≡ value_named (ascii "xml:lang") (attribute n v ∷ as')

    go : (m : Meaning) (ms : List Meaning) → Says (attribute n v) m → first xml_lang ms ≡ value_named (ascii "xml:lang") as' → All (m ∷ ms)
    go (means q i w) ms h k = rw (h.0, h.1, k) refl

-- ---- start tags

module _ (t : Tag) where
  abbrev Fits : Opened → Type 0
  Fits o = AllInLanguage t.language o.lines

  node-fits : (n : ℕ) → Always Fits (open_node t n)
  unfolding open_node
  node-fits n =
      always_require Fits _ _ _ λ e₁. always_require Fits _ _ _ λ e₂. always_after Fits _ _
      (all_append t.language (tag_lines _ t) _ (tag_in _ t) (type_in _ t.language _))

  as_fits : (a : ParseType) (p : Property) (n : ℕ) → Always Fits (O.open_as a t p n)
  unfolding O.open_as O.open_with O.open_default O.open_with_node O.open_resource
  as_fits no_parse_type p n = always_if Fits _ _ _ (λ e. always_any Fits _ _ λ o. tag_in o.0 t) λ e. tt
  as_fits as_collection p n = tt
  as_fits as_resource p n = always_after Fits _ _ (statement_in t.language p (node _) tt)
  as_fits as_literal p n = tt
  as_fits as_other p n = tt

  property-fits : (s : Subject) (li n : ℕ) → Always Fits (open_property t s li n)
  unfolding open_property
  property-fits s li n = always_require Fits _ _ _ λ e₁. always_require Fits _ _ _ λ e₂. always_after Fits _ _ (as_fits _ _ n)

  root-fits : (n : ℕ) → Always Fits (open_root t n)
  unfolding open_root
  root-fits n = always_if Fits _ _ _ (λ e. tt) λ e. node-fits n

-- in Literal content (x) or not: the language behind it, which its literals have
abbrev Started : Bool → List Attribute → Doc → Step → Type 0
Started x as' d s = (language_in_force s.1.frames ≡ language_behind x as' d.frames) × AllInLanguage (language_behind x as' d.frames) s.0

tag-language : (n : Bytes) (as' : List Attribute) (d : Doc) (t : Tag) → Read n as' d t
    → (t.own_tag ≡ own_of (value_named (ascii "xml:lang") as')) × (t.language ≡ language_behind false as' d.frames)
tag-language n as' d t (e, (ms, g, o), l) =
    let own : t.own_tag ≡ own_of (value_named (ascii "xml:lang") as') =
    o ∙ ap own_of (always_good (λ ms. first xml_lang ms ≡ value_named (ascii "xml:lang") as') (attributes_say (scope_of as' d) as') g) in
    (own, l ∙ ap (λ (x : Own). in_force x (language_in_force d.frames)) own)

open_element_lem : (production : Tag → ℕ → Answer Opened) (n : Bytes) (as' : List Attribute) (d : Doc) → ((t : Tag) → Always (Fits t) (production t d.labels))
    → Always (Started false as' d) (G.open_element production n as' d)
unfolding G.open_element G.opened language_in_force
open_element_lem production n as' d h =
    always_bind (Read n as' d) (Started false as' d) _ _ (tag_read n as' d) λ t r.
    always_bind (Fits t) (Started false as' d) _ _ (always_rules (Fits t) _ _ (h t)) λ o k.
    always_require (Started false as' d) _ _ _ λ e.
    (let l = tag-language n as' d t r in
    let same : language_in_force (count_li t.iri (noted d.mode.xmp t) d.frames) ≡ language_in_force d.frames = same-language _ d.frames (said-count t.iri _ d.frames) in
    (ap (in_force t.own_tag) same ∙ ap (λ (x : Own). in_force x (language_in_force d.frames)) l.0, rw l.1 at k))

open_in_lem : (p : Place) (n : Bytes) (as' : List Attribute) (d : Doc) → Always (Started (is_mute p n as' d) as' d) (G.open_in p n as' d)
unfolding G.open_in G.copy_element open_wrapper wrapped is_mute with_frames add_xml language_in_force in_force
open_in_lem outside n as' d =
    let Q : Step → Type 0 = Started (starts_wrapper d.mode.xmp n as' d.frames) as' d in
    always_if Q _ _ _ (λ w. always_after Q _ _ (always_after Q _ _ (rw w (refl, tt)))) λ w. rw w (open_element_lem open_root n as' d λ t. root-fits t d.labels)
open_in_lem nodes n as' d = open_element_lem open_node n as' d λ t. node-fits t d.labels
open_in_lem nodes_or_text n as' d = open_element_lem open_node n as' d λ t. node-fits t d.labels
open_in_lem (properties s li) n as' d = open_element_lem (λ t. open_property t s li) n as' d λ t. property-fits t s li d.labels
open_in_lem xml n as' d =
    always_require (Started true as' d) _ _ _ λ e. always_after (Started true as' d) _ _ (same-language _ d.frames (said-value _ d.frames), tt)

on_opening_lem : (n : Bytes) (as' : List Attribute) (d : Doc) → Always (Started (is_mute (place_in d.frames) n as' d) as' d) (G.on_opening n as' d)
unfolding G.on_opening
on_opening_lem n as' d =
    always_require (Started (is_mute (place_in d.frames) n as' d) as' d) _ _ _ λ e₁.
    always_require (Started (is_mute (place_in d.frames) n as' d) as' d) _ _ _ λ e₂. open_in_lem (place_in d.frames) n as' d

-- ---- end tags

abbrev Ended : Language → Step → Type 0
Ended l s = AllInLanguage l s.0

object_in_lem : (d : Option Bytes) (l : Language) (o : Object) → InLanguage l (object_term d l o)
unfolding object_term
object_in_lem d l no_object = literal_in d l []
object_in_lem d l (node_object s) = tt
object_in_lem d l (text_object t) = literal_in d l t

end_value_lem : (p : Property) (v : Value) (l : Language) (d : Doc) → Always (Ended l) (C.end_value p v l d)
unfolding C.end_value
end_value_lem p (default t o) l d = statement_in l p (object_term t l o) (object_in_lem t l o)
end_value_lem p (collection cs) l d =
    always_after (Ended l) _ _ (all_append l (cells d.labels _ cs) _ (cells_in l d.labels _ cs) (statement_in l p (node _) tt))
end_value_lem p (literal x) l d = always_after (Ended l) _ _ (statement_in l p _ tt)
end_value_lem p other l d = tt

end_kind_lem : (k : Kind) (n : Bytes) (l : Language) (d : Doc) → Always (Ended l) (C.end_kind k n l d)
unfolding C.end_kind
end_kind_lem rdf_rdf n l d = tt
end_kind_lem (wrapper b) n l d = always_after (Ended l) _ _ tt
end_kind_lem (node_element s li) n l d = tt
end_kind_lem (property_element p v) n l d = end_value_lem p v l d
end_kind_lem xml_element n l d = tt

close_element_lem : (n : Bytes) (fs : List Frame) (d : Doc) → Always (Ended (language_in_force fs)) (C.close_element n fs d)
unfolding C.close_element
close_element_lem n [] d = tt
close_element_lem n (f ∷ fs) d = always_after (Ended (language_in_force (f ∷ fs))) _ _ (end_kind_lem f.kind n (language_in_force (f ∷ fs)) (with_frames fs d))

-- ---- all events

on_text_lem : (l : Language) (p : Place) (s : Bytes) (d : Doc) → Always (Ended l) (X.on_text p s d)
unfolding X.on_text
on_text_lem l outside s d = always_after (Ended l) _ _ tt
on_text_lem l nodes s d = always_after (Ended l) _ _ tt
on_text_lem l (properties u li) s d = always_after (Ended l) _ _ tt
on_text_lem l nodes_or_text s d = tt
on_text_lem l xml s d = tt

abbrev Written : Event → Doc → Step → Type 0
Written e d s = AllInLanguage (language_in_force (open_at e d s.1)) s.0

on_event_lem : (e : Event) (d : Doc) → Always (Written e d) (X.on_event e d)
unfolding X.on_event
on_event_lem (opening n as') d =
    always_map (Started (is_mute (place_in d.frames) n as' d) as' d) (Written (opening n as') d) (G.on_opening n as' d) (on_opening_lem n as' d) λ s h. rw h.0 h.1
on_event_lem (closing n) d = close_element_lem n d.frames d
on_event_lem (text s) d = on_text_lem (language_in_force d.frames) (place_in d.frames) s d
on_event_lem instruction d = tt

-- Behind an accepted start tag the language in force is that of its own xml:lang, lowercased, none where that is empty, or where it
-- has none the one around.
pub start_language : (n : Bytes) (as' : List Attribute) (d d' : Doc) (us : List Triple) → next (opening n as') d ≡ good (us, d')
    → language_in_force d'.frames ≡ language_behind (is_mute (place_in d.frames) n as' d) as' d.frames
unfolding X.on_event
start_language n as' d d' us q =
    (always_good (Started x as' d) (always_next (Started x as' d) (opening n as') d (on_opening_lem n as' d)) q).0
  where
    x : Bool
    x = is_mute (place_in d.frames) n as' d

-- Every literal without datatype among the lines of an accepted event has the language in force in the element that the event
-- opens or closes: property attributes at a start tag, the object at an end tag. Where none is in force it has none.
pub literals_in_language : (e : Event) (d d' : Doc) (us : List Triple) → next e d ≡ good (us, d') → AllInLanguage (language_in_force (open_at e d d')) us
literals_in_language e d d' us q = always_good (Written e d) (always_next (Written e d) e d (on_event_lem e d)) q

-- So the literals that an element's own two tags write have the language of its own xml:lang, lowercased, none where that is empty, or
-- where it has none the one in force before it; what stands inside it or before it, and has closed, has no part in that.
pub element_language : {d d' : Doc} (c : Element d d')
    → AllInLanguage (language_behind (is_mute (place_in d.frames) c.begun.name c.begun.attributes d) c.begun.attributes d.frames) (c.begun.start_lines ++ c.end_lines)
element_language {d} {d'} c =
    let b = c.begun in
    let first = start_language b.name b.attributes d b.first b.start_lines b.starts in
    all_append _ b.start_lines c.end_lines
    (rw first at (literals_in_language (opening b.name b.attributes) d b.first b.start_lines b.starts))
    (rw (last-language c ∙ first) at (literals_in_language (closing c.name) c.last d' c.end_lines c.ends))

-- ---- request 2: the empty xml:lang

-- the three verdicts, numbered
code : Verdict → ℕ
code Good = 0
code Clears = 1
code Bad = 2

-- The tag check: "clears" of the empty value alone, "good" of the tags of RFC 5646 alone, and so "bad" of all others.
pub only-empty_clears : (v : Bytes) → verdict v ≡ Clears → v ≡ []
unfolding verdict is_empty when◌then◌else◌ code
only-empty_clears [] h = refl
only-empty_clears (c ∷ s) h = absurd (go (is_language_tag (c ∷ s)) (ap code h))
  where
    go : (t : Bool) → code (when t then Good else Bad) ≡ 1 → ⊥
    go true e = omega (arith, e)
    go false e = omega (arith, e)

pub empty_clears : verdict [] ≡ Clears
unfolding verdict is_empty when◌then◌else◌
empty_clears = refl

pub only-tags_good : (v : Bytes) → verdict v ≡ Good → is_language_tag v ≡ true
unfolding verdict is_empty when◌then◌else◌ code
only-tags_good [] h = absurd (let e : 1 ≡ 0 = ap code h in omega (arith, e))
only-tags_good (c ∷ s) h = go (is_language_tag (c ∷ s)) (ap code h)
  where
    go : (t : Bool) → code (when t then Good else Bad) ≡ 0 → t ≡ true
    go true e = refl
    go false e = absurd (omega (arith, e))

no_tag : is_language_tag [] ≡ false
unfolding L.all
no_tag = refl

pub tags_good : (v : Bytes) → is_language_tag v ≡ true → verdict v ≡ Good
unfolding verdict is_empty when◌then◌else◌
tags_good [] h = absurd (false≢true (sym no_tag ∙ h))
tags_good (c ∷ s) h = rw h refl

empty_cleared : (o : Option Bytes) (l : Language) → o ≡ some [] → in_force (own_of o) l ≡ no_language
unfolding own_of said_by verdict is_empty in_force when◌then◌else◌
empty_cleared o l e = rw e refl

-- Behind an accepted start tag with an empty xml:lang no language is in force, whatever is around it (where xml:lang means something).
pub start_cleared : (n : Bytes) (as' : List Attribute) (d d' : Doc) (us : List Triple) → next (opening n as') d ≡ good (us, d')
    → is_mute (place_in d.frames) n as' d ≡ false → value_named (ascii "xml:lang") as' ≡ some [] → language_in_force d'.frames ≡ no_language
start_cleared n as' d d' us q m e =
    start_language n as' d d' us q ∙ (ap (λ (x : Bool). language_behind x as' d.frames) m ∙ empty_cleared (value_named (ascii "xml:lang") as') (language_in_force d.frames) e)

-- The literals that such an element's own two tags write are plain: its property attributes at the start tag, the object at the end tag.
pub element_cleared : {d d' : Doc} (c : Element d d')
    → is_mute (place_in d.frames) c.begun.name c.begun.attributes d ≡ false → value_named (ascii "xml:lang") c.begun.attributes ≡ some []
    → AllInLanguage no_language (c.begun.start_lines ++ c.end_lines)
element_cleared {d} {d'} c m e =
    let q : language_behind (is_mute (place_in d.frames) c.begun.name c.begun.attributes d) c.begun.attributes d.frames ≡ no_language =
    ap (λ (x : Bool). language_behind x c.begun.attributes d.frames) m ∙ empty_cleared (value_named (ascii "xml:lang") c.begun.attributes) (language_in_force d.frames) e in
    rw q at (element_language c)

-- An element that has no xml:lang takes the language around it, or none from one that cleared it.
pub start_inherits : (n : Bytes) (as' : List Attribute) (d d' : Doc) (us : List Triple) → next (opening n as') d ≡ good (us, d')
    → value_named (ascii "xml:lang") as' ≡ none → language_in_force d'.frames ≡ language_in_force d.frames
unfolding own_of in_force
start_inherits n as' d d' us q e = start_language n as' d d' us q ∙ go (is_mute (place_in d.frames) n as' d)
  where
    go : (x : Bool) → language_behind x as' d.frames ≡ language_in_force d.frames
    go true = refl
    go false = ap (λ (o : Option Bytes). in_force (own_of o) (language_in_force d.frames)) e

-- Below an open element that clears, where those inside it say nothing, no language is in force.
pub below_cleared : (gs : List Frame) (f : Frame) (fs : List Frame) → All (λ g. g.own_tag ≡ unsaid) gs → f.own_tag ≡ cleared → language_in_force (gs ++ (f ∷ fs)) ≡ no_language
unfolding language_in_force in_force
below_cleared [] f fs h e = rw e refl
below_cleared (g ∷ gs) f fs h e = ap (λ (x : Own). in_force x (language_in_force (gs ++ (f ∷ fs)))) h.0 ∙ below_cleared gs f fs h.1 e

-- So every literal without datatype that an accepted event writes there is plain.
pub literals_below_cleared : (e : Event) (d d' : Doc) (us : List Triple) → next e d ≡ good (us, d')
    → (gs : List Frame) (f : Frame) (fs : List Frame) → open_at e d d' ≡ gs ++ (f ∷ fs) → All (λ g. g.own_tag ≡ unsaid) gs → f.own_tag ≡ cleared → AllInLanguage no_language us
literals_below_cleared e d d' us q gs f fs o h c =
    let z : language_in_force (open_at e d d') ≡ no_language = ap language_in_force o ∙ below_cleared gs f fs h c in
    rw z at (literals_in_language e d d' us q)
