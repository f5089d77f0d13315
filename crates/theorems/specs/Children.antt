-- Demand 3: the list of a Collection is its children.
use Rattle.std.specs.Prelude.{◌≡◌, List, [], ◌∷◌, ◌++◌, reverse, ℕ, ◌+◌, ◌-◌, ◌≤◌, ◌<◌, length}
use Rattle.std.proofs.Common.{sym, ◌∙◌, ap, subst, append-nil, append_assoc, arith}
use Rattle.std.proofs.Math.Option.{Option, some}
use Rattle.std.proofs.lemmas.List.{reverse-reverse}
use Rattle.spec.specs.Bytes.{Bytes}
use Rattle.spec.specs.Numbers.{good}
use Rattle.spec.specs.NTriples.{Subject, named, node, Triple}
use Rattle.spec.specs.Rdf.{rdf}
use Rattle.spec.specs.Pyx.{opening, closing}
use Rattle.spec.specs.declared.Mode.{Mode}
use Rattle.spec.specs.Document.{collection, Property, Kind, property_element, Frame, Doc, fresh, with_frames}
use Rattle.spec.specs.Productions.{statement}
use Rattle.spec.specs.EndTag.{cells}
use Rattle.spec.specs.RdfXml.{next}
use Rattle.spec.specs.Lists.{After, here, event, Cell, Reads}
use Rattle.spec.specs.Inside.{Begun, Element, innermost, children, lines_in, lis}
use Rattle.theorems.specs.Always.{always_good}
use Rattle.theorems.specs.Frames.{Moved, moves}
use Rattle.theorems.specs.Inside.{a_collection, Open, grown, holds, end_open}
use Rattle.theorems.specs.Lists.{in_collection, Closed, closes, lists_read_back, grows_after, bound_after, no_cell_in_two-lists}

pub after_append : {d₀ d d' : Doc} {ts us : List Triple} → After d₀ d ts → After d d' us → After d₀ d' (ts ++ us)
after_append {d₀} {d} {ts = ts} a here = rw append-nil a
after_append {d₀} {ts = ts} a (event {ts = vs} b e d' us q) = rw (← append_assoc ts vs us) (event (after_append a b) e d' us q)

-- an element is a run of events
after_element : {d₀ d d' : Doc} {ts : List Triple} (c : Element d d') → After d₀ d ts → After d₀ d' (ts ++ lines_in c)
unfolding lines_in
after_element c a =
    let b = c.begun in
    simp (← append_assoc) (event (after_append (event a (opening b.name b.attributes) b.first b.start_lines b.starts) b.inside) (closing c.name) _ c.end_lines c.ends)

-- a document by its parts
with_frames_lem : (d : Doc) {fs : List Frame} → d.frames ≡ fs → d ≡ with_frames fs d
unfolding with_frames
with_frames_lem d e = ap (λ (l : List Frame). with_frames l d) e

-- what an end tag writes that closes a list
abbrev List-of : Doc → Doc → Property → List Triple → List Triple → List Subject → Type 0
List-of d d' p us ts cs = (x : Subject) × (ws : List Triple) × (us ≡ ws ++ statement p (node x)) × Reads d.labels d'.labels ts x cs

closed_list : (m₀ : Mode) (b₀ : Option Bytes) (f : Frame) (p : Property) (cs : List Subject) (fs : List Frame) (d d' d'' : Doc) (ts us vs : List Triple) (m : Bytes)
    → f.kind ≡ property_element p (collection cs) → d.frames ≡ f ∷ fs
    → After (fresh m₀ b₀) d ts → next (closing m) d ≡ good (us, d') → After d' d'' vs → List-of d d' p us (ts ++ (us ++ vs)) (reverse cs)
unfolding with_frames
closed_list m₀ b₀ f p cs fs d d' d'' ts us vs m is e before q after =
    let n : ℕ = d.labels in
    let D : Doc = in_collection f p cs is fs d.mode d.start_base d.rooted n d.ids in
    let same : d ≡ D = with_frames_lem d e in
    let q' : next (closing m) D ≡ good (us, d') = subst (λ (d : Doc). next (closing m) d ≡ good (us, d')) same q in
    let r = lists_read_back f p cs is fs d.mode d.start_base d.rooted n d.ids m₀ b₀ ts us vs m d' d'' (subst (λ (d : Doc). After (fresh m₀ b₀) d ts) same before) q' after in
    let c = always_good (Closed f p cs is fs d.mode d.start_base d.rooted n d.ids) (closes f p cs is fs d.mode d.start_base d.rooted n d.ids m) q' in
    let up : d'.labels ≡ n + length cs = ap (λ (d : Doc). d.labels) c.1 in
    (r.0, cells n (named (rdf "nil")) cs, r.1, subst (λ (h : ℕ). Reads n h (ts ++ (us ++ vs)) r.0 (reverse cs)) (sym up) r.2)

-- what stood before the end tag of a Collection
last_frames : {d d' : Doc} {p : Property} {cs : List Subject} (c : Element d d') → innermost c.begun.first.frames ≡ some (property_element p (collection cs))
    → (f : Frame) × (fs : List Frame) × (c.last.frames ≡ f ∷ fs) × (f.kind ≡ property_element p (collection (reverse (children c.begun))))
last_frames {d} {d'} {p} {cs} c is = go (holds c.begun a_collection is)
  where
    K : List Subject → Kind
    K cs = grown (property_element p (collection cs)) (children c.begun) (lis c.begun)

    go : (cs ≡ []) × ((fs : List Frame) × (length fs ≡ length d.frames) × Open fs (K cs) c.last.frames)
        → (f : Frame) × (fs : List Frame) × (c.last.frames ≡ f ∷ fs) × (f.kind ≡ K [])
    go (new, (fs, e, o)) =
        let r = end_open o (always_good (Moved c.last (closing c.name)) (moves (closing c.name) c.last) c.ends).0 (c.closes ∙ sym e) in
        (r.0, fs, r.1, r.2 ∙ ap K new)

-- A Collection between any events of a document, before, inside and after it: its end tag ends in its statement, whose object
-- is a list; and in all lines of the document that list has exactly the children, the subjects of the node elements that closed
-- directly inside the Collection, in order. Its cells are the labels that its end tag generated.
pub collections_read_back : (m₀ : Mode) (b₀ : Option Bytes) (d d' d'' : Doc) (ts vs : List Triple) (p : Property) (cs : List Subject) (c : Element d d')
    → After (fresh m₀ b₀) d ts → innermost c.begun.first.frames ≡ some (property_element p (collection cs)) → After d' d'' vs
    → (x : Subject) × (us : List Triple) × (c.end_lines ≡ us ++ statement p (node x))
    × Reads c.last.labels d'.labels (ts ++ (lines_in c ++ vs)) x (children c.begun)
unfolding lines_in
collections_read_back m₀ b₀ d d' d'' ts vs p cs c before is after = go (last_frames c is)
  where
    b : Begun d c.last
    b = c.begun

    lines : ((ts ++ b.start_lines) ++ b.inner_lines) ++ (c.end_lines ++ vs) ≡ ts ++ (lines_in c ++ vs)
    lines = simp append_assoc

    go : (f : Frame) × (fs : List Frame) × (c.last.frames ≡ f ∷ fs) × (f.kind ≡ property_element p (collection (reverse (children b))))
        → List-of c.last d' p c.end_lines (ts ++ (lines_in c ++ vs)) (children b)
    go (f, fs, e, k) =
        rw (← lines, ← reverse-reverse (children b)) (closed_list m₀ b₀ f p (reverse (children b)) fs c.last d' d'' ((ts ++ b.start_lines) ++ b.inner_lines) c.end_lines vs c.name k e
        (after_append (event before (opening b.name b.attributes) b.first b.start_lines b.starts) b.inside) c.ends after)

-- No cell is in the lists of two Collections, here one that closes before the other.
pub no_cell_in_two_collections : (m₀ : Mode) (b₀ : Option Bytes) (d₁ d₁' d₂ d₂' : Doc) (ts vs : List Triple) (c₁ : Element d₁ d₁') (c₂ : Element d₂ d₂') (x : Subject)
    → After (fresh m₀ b₀) d₁ ts → After d₁' c₂.last vs
    → Cell c₁.last.labels d₁'.labels x → Cell c₂.last.labels d₂'.labels x → ⊥
unfolding fresh
no_cell_in_two_collections m₀ b₀ d₁ d₁' d₂ d₂' ts vs c₁ c₂ x before between i j =
    let last : After c₂.last d₂' ([] ++ c₂.end_lines) = event here (closing c₂.name) d₂' c₂.end_lines c₂.ends in
    let one : d₁'.labels < 100_000_000 = bound_after (fresh m₀ b₀) d₁' _ (omega arith) (after_element c₁ before) in
    let two : c₂.last.labels < 100_000_000 = bound_after d₁' c₂.last vs one between in
    let end : d₂'.labels < 100_000_000 = bound_after c₂.last d₂' _ two last in
    let up : c₂.last.labels ≤ d₂'.labels = grows_after c₂.last d₂' _ two last in
    let h : j.0 ≤ d₂'.labels = j.2 in
    no_cell_in_two-lists d₁' c₂.last vs c₁.last.labels (d₂'.labels - c₂.last.labels) x one between (omega arith) i (j.0, j.1, omega arith, j.3)
