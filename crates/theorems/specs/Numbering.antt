-- Each node element numbers its own rdf:li from 1, whatever stood before it.
use Rattle.std.specs.Prelude.{◌≡◌, refl, true, List, ◌∷◌, ◌++◌, ℕ, suc, ◌+◌, length}
use Rattle.std.proofs.Common.{sym, ◌∙◌, ap, arith}
use Rattle.std.proofs.Math.Option.{some}
use Rattle.spec.specs.Bytes.{Bytes, when◌then◌else◌}
use Rattle.spec.specs.Numbers.{good}
use Rattle.spec.specs.Pyx.{Attribute, opening}
use Rattle.spec.specs.NTriples.{Subject, node, Triple, decimal}
use Rattle.spec.specs.Rdf.{rdf}
use Rattle.spec.specs.Document.{Value, Property, node_element, property_element, Frame, Doc, properties, in_kind, place_in}
use Rattle.spec.specs.StartTag.{Tag}
use Rattle.spec.specs.Productions as O
use Rattle.spec.specs.Productions.{Opened, statement, is_li, property_iri, open_property, ParseType, no_parse_type, as_collection, as_resource, as_literal, as_other}
use Rattle.spec.specs.Opening.{Step}
use Rattle.spec.specs.Opening as G
use Rattle.spec.specs.RdfXml.{next}
use Rattle.spec.specs.RdfXml as X
use Rattle.spec.specs.Inside.{Begun, Element, innermost, is_li_tag, names_li, lis, Begins, is_open_lem, is_written, Writes}
use Rattle.theorems.specs.Rules.{always_rules}
use Rattle.theorems.specs.Always.{Always, always_bind, always_any, always_after, always_require, always_if, always_map, always_good}
use Rattle.theorems.specs.Frames.{Read, tag_read, always_next}
use Rattle.theorems.specs.Statements.{property-written}
use Rattle.theorems.specs.Inside.{a_node, Open, holds, innermost_open}

-- what a property's start tag opens, and writes
data Opens (p : Property) (o : Opened) : Type 0 where
  held : (v : Value) → o.kind ≡ property_element p v → Opens p o
  written : (x : Subject) → o.lines ≡ statement p (node x) → o.kind ≡ node_element x 0 → Opens p o

opens_as : (a : ParseType) (t : Tag) (p : Property) (n : ℕ) → Always (Opens p) (O.open_as a t p n)
unfolding O.open_as O.open_with O.open_default O.open_with_node O.open_resource
opens_as no_parse_type t p n = always_if (Opens p) _ _ _ (λ e. always_any (Opens p) _ _ λ o. held _ refl) λ e. held _ refl
opens_as as_collection t p n = held _ refl
opens_as as_resource t p n = always_after (Opens p) _ _ (written _ refl refl)
opens_as as_literal t p n = held _ refl
opens_as as_other t p n = held _ refl

-- the rdf:li of a node that has had li of them
abbrev Numbered : Subject → ℕ → Step → Type 0
Numbered s li u = (p : Property) × (p.subject ≡ s) × (p.iri ≡ rdf "_" ++ decimal (suc li)) × Begins p u.0 u.1

abbrev Counts : Subject → ℕ → Opened → Type 0
Counts s li o = (p : Property) × (p.subject ≡ s) × (p.iri ≡ rdf "_" ++ decimal (suc li)) × Opens p o

counts : (t : Tag) (s : Subject) (li n : ℕ) → is_li t.iri ≡ true → Always (Counts s li) (open_property t s li n)
unfolding open_property property_iri when◌then◌else◌
counts t s li n h =
    always_require (Counts s li) _ _ _ λ e₁. always_require (Counts s li) _ _ _ λ e₂. always_after (Counts s li) _ _
    (always_map (Opens p) (Counts s li) (O.open_as (O.parse_type_of t.parse_type) t p n) (opens_as _ t p n) λ o k. (p, refl, number, k))
  where
    p : Property
    p = record { subject = s; iri = property_iri t.iri (suc li); id = t.id }

    number : property_iri t.iri (suc li) ≡ rdf "_" ++ decimal (suc li)
    number = rw h refl

begins : {p : Property} (t : Tag) (d : Doc) (o : Opened) → Opens p o → Begins p (G.opened t d o).0 (G.opened t d o).1
unfolding G.opened innermost
begins t d o (held v e) = is_open_lem v (ap some e)
begins t d o (written x e k) = is_written x e (ap some k)

-- its start tag
next_li : (n : Bytes) (as' : List Attribute) (d : Doc) (s : Subject) (li : ℕ) → place_in d.frames ≡ properties s li → is_li_tag n as' d.frames ≡ true
    → Always (Numbered s li) (next (opening n as') d)
unfolding X.on_event G.on_opening G.open_in G.open_element is_li_tag names_li
next_li n as' d s li place is =
    always_next (Numbered s li) (opening n as') d
    (always_require (Numbered s li) _ _ _ λ e₁. always_require (Numbered s li) _ _ _ λ e₂. rw place
    (always_bind (Read n as' d) (Numbered s li) _ _ (tag_read n as' d) λ t r.
    always_bind (Counts s li) (Numbered s li) _ _ (always_rules (Counts s li) _ _ (counts t s li d.labels (rw r.0 at is))) λ o k.
    always_require (Numbered s li) _ _ _ λ e. (k.0, k.1, k.2, begins t d o k.3)))

-- The start tag of an rdf:li directly inside a node element begins a property of that node, which stands for rdf:_n; n is one more
-- than the number of rdf:li that opened directly inside the same node element before.
pub li-numbered : {d d₂ : Doc} (b : Begun d d₂) (s : Subject) (li : ℕ) → innermost b.first.frames ≡ some (node_element s li)
    → length d₂.frames ≡ suc (length d.frames)
    → (n : Bytes) (as' : List Attribute) (us : List Triple) (d₃ : Doc) → is_li_tag n as' d₂.frames ≡ true → next (opening n as') d₂ ≡ good (us, d₃)
    → (p : Property) × (p.subject ≡ s) × (p.iri ≡ rdf "_" ++ decimal (suc (lis b))) × Begins p us d₃
unfolding place_in in_kind
li-numbered {d} {d₂} b s li is l n as' us d₃ it q = always_good (Numbered s (lis b)) (next_li n as' d₂ s (lis b) (place (holds b a_node is)) it) q
  where
    place : (li ≡ 0) × ((fs : List Frame) × (length fs ≡ length d.frames) × Open fs (node_element s (li + lis b)) d₂.frames) → place_in d₂.frames ≡ properties s (lis b)
    place (z, (fs, e, o)) =
        let r = innermost_open o (l ∙ ap suc (sym e)) in
        let f : d₂.frames ≡ r.0 ∷ fs = r.1 in
        let k : r.0.kind ≡ node_element s (li + lis b) = r.2 in
        ap place_in f ∙ (ap in_kind k ∙ ap (properties s) (omega arith))

-- So with its lines: the element writes its statement, whose subject is the node and whose predicate is rdf:_n.
pub li-written : {d d₂ d₃ : Doc} (b : Begun d d₂) (s : Subject) (li : ℕ) → innermost b.first.frames ≡ some (node_element s li)
    → length d₂.frames ≡ suc (length d.frames) → (c : Element d₂ d₃) → is_li_tag c.begun.name c.begun.attributes d₂.frames ≡ true
    → (p : Property) × (p.subject ≡ s) × (p.iri ≡ rdf "_" ++ decimal (suc (lis b))) × Writes p c
li-written b s li is l c it =
    let r = li-numbered b s li is l c.begun.name c.begun.attributes c.begun.start_lines c.begun.first it c.begun.starts in
    (r.0, r.1, r.2, property-written c r.0 r.3)
