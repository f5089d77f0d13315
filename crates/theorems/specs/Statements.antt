-- A property element writes the statement that its start tag began: its subject, IRI and rdf:ID stay while it is open.
use Rattle.std.specs.Prelude.{◌≡◌, refl, Bool, ◌<◌, length}
use Rattle.std.proofs.Common.{sym, ◌∙◌, arith, length-append}
use Rattle.std.proofs.Math.Path.{ap}
use Rattle.std.proofs.Math.Bool.{true, false}
use Rattle.std.proofs.Math.Option.{some, some-injective}
use mathlib.Core.List.{List, [], ◌∷◌, ◌++◌}
use Rattle.spec.specs.XmlLang.{Language}
use Rattle.spec.specs.Bytes.{Bytes, when◌then◌else◌}
use Rattle.spec.specs.Pyx.{Event, opening, closing, text, instruction}
use Rattle.spec.specs.NTriples.{Subject, named, Term, Triple}
use Rattle.spec.specs.Rdf.{rdf}
use Rattle.spec.specs.Document.{Value, default, collection, literal, other, Property, Kind, rdf_rdf, wrapper, node_element, property_element, xml_element, Part, Frame, Doc, with_kind, with_part, on_value, is_xml_element, change_value}
use Rattle.spec.specs.Productions.{statement}
use Rattle.spec.specs.XmlLiteral.{takes_xml}
use Rattle.spec.specs.Opening.{counted, count_li}
use Rattle.spec.specs.EndTag.{takes_node}
use Rattle.spec.specs.EndTag as C
use Rattle.spec.specs.RdfXml.{takes_text, next}
use Rattle.spec.specs.RdfXml as X
use Rattle.spec.specs.Lists.{After, here, event}
use Rattle.spec.specs.Inside.{StaysOpen, Element, innermost, Begins, is_open_lem, is_written, Writes, at_start, at_end, nowhere}
use Rattle.theorems.specs.Always.{Always, always_after, always_good}
use Rattle.theorems.specs.Frames.{Gentle, by_text, by_xml, left, left-length, Move, instructs, leaves, adds, opens, copies, closes, Moved, moves, OnTop, on_top, always_next}

-- ---- changes of the value

-- the value of a parseType that is neither Collection, Literal nor Resource
unfoldable is_other : Value → Bool
is_other (default d o) = false
is_other (collection cs) = false
is_other (literal x) = false
is_other other = true

-- a change that leaves it so, or not so
abbrev Keeps : (Value → Value) → Type 0
Keeps h = (v : Value) → is_other (h v) ≡ is_other v

node-keeps : (s : Subject) → Keeps (takes_node s)
unfolding is_other takes_node
node-keeps s (default d o) = refl
node-keeps s (collection cs) = refl
node-keeps s (literal x) = refl
node-keeps s other = refl

text-keeps : {g : Value → Value} → Gentle g → Keeps g
unfolding is_other takes_text takes_xml
text-keeps (by_text s) (default d o) = refl
text-keeps (by_text s) (collection cs) = refl
text-keeps (by_text s) (literal x) = refl
text-keeps (by_text s) other = refl
text-keeps (by_xml x) (default d o) = refl
text-keeps (by_xml x) (collection cs) = refl
text-keeps (by_xml x) (literal y) = refl
text-keeps (by_xml x) other = refl

-- ---- a property that is open

module _ (p : Property) (b : Bool) (fs : List Frame) where
  -- the property p, of another parseType or not (b), with the elements fs around it
  data Held : List Frame → Type 0 where
    held_at : (gs : List Frame) (g : Frame) (v : Value) → g.kind ≡ property_element p v → is_other v ≡ b → Held (gs ++ (g ∷ fs))

  under : (f : Frame) {frames : List Frame} → Held frames → Held (f ∷ frames)
  under f (held_at gs g v is o) = held_at (f ∷ gs) g v is o

  value-held : (h : Value → Value) → Keeps h → (gs : List Frame) (g : Frame) (v : Value) → g.kind ≡ property_element p v → is_other v ≡ b → Held (change_value h (gs ++ (g ∷ fs)))
  unfolding change_value with_kind on_value is_xml_element when◌then◌else◌
  value-held h k [] g v is o =
      let no : is_xml_element g.kind ≡ false = ap is_xml_element is in
      rw no (held_at [] (with_kind (on_value h g.kind) g) (h v) (ap (on_value h) is) (k v ∙ o))
  value-held h k (x ∷ gs) g v is o = go (is_xml_element x.kind) (value-held h k gs g v is o)
    where
      go : (t : Bool) → Held (change_value h (gs ++ (g ∷ fs))) → Held (when t then x ∷ change_value h (gs ++ (g ∷ fs)) else with_kind (on_value h x.kind) x ∷ gs ++ (g ∷ fs))
      go true r = under x r
      go false r = held_at (with_kind (on_value h x.kind) x ∷ gs) g v is o

  count_held : (i : Bytes) (h : Part → Part) (gs : List Frame) (g : Frame) (v : Value) → g.kind ≡ property_element p v → is_other v ≡ b → Held (count_li i h (gs ++ (g ∷ fs)))
  unfolding count_li with_kind with_part counted
  count_held i h [] g v is o = held_at [] (with_part (h g.part) (with_kind (counted i g.kind) g)) v (ap (counted i) is) o
  count_held i h (x ∷ gs) g v is o = held_at (with_part (h x.part) (with_kind (counted i x.kind) x) ∷ gs) g v is o

  left-held : (k : Kind) (n : Bytes) (gs : List Frame) (g : Frame) (v : Value) → g.kind ≡ property_element p v → is_other v ≡ b → Held (left k n (gs ++ (g ∷ fs)))
  left-held rdf_rdf n gs g v is o = held_at gs g v is o
  left-held (wrapper w) n gs g v is o = held_at gs g v is o
  left-held (node_element s li) n gs g v is o = value-held (takes_node s) (node-keeps s) gs g v is o
  left-held (property_element q w) n gs g v is o = held_at gs g v is o
  left-held xml_element n gs g v is o = value-held _ (text-keeps (by_xml _)) gs g v is o

  closed-held : {n : Bytes} {frames : List Frame} (gs : List Frame) (g : Frame) (v : Value) → g.kind ≡ property_element p v → is_other v ≡ b
      → Move (closing n) (gs ++ (g ∷ fs)) frames → length fs < length frames → Held frames
  closed-held {n} [] g v is o closes more = absurd (let e : length (left g.kind n fs) ≡ length fs = left-length g.kind n fs in omega arith)
  closed-held {n} (x ∷ gs) g v is o closes more = left-held x.kind n gs g v is o

  step-held : {e : Event} {frames frames' : List Frame} → Held frames → Move e frames frames' → length fs < length frames' → Held frames'
  step-held {e = opening n as'} (held_at gs g v is o) (opens {f = f} i h e c) more = under f (count_held i h gs g v is o)
  step-held {e = opening n as'} (held_at gs g v is o) (copies {f = f} x c k) more = under f (value-held _ (text-keeps (by_xml x)) gs g v is o)
  step-held {e = closing n} (held_at gs g v is o) m more = closed-held gs g v is o m more
  step-held {e = text s} (held_at gs g v is o) leaves more = held_at gs g v is o
  step-held {e = text s} (held_at gs g v is o) (adds m) more = value-held _ (text-keeps m) gs g v is o
  step-held {e = instruction} (held_at gs g v is o) instructs more = held_at gs g v is o

  stays-held : {d₀ d : Doc} {ts : List Triple} → Held d₀.frames → (a : After d₀ d ts) → StaysOpen (length fs) a → Held d.frames
  stays-held h here s = h
  stays-held h (event {d = d} before e d' us q) s = step-held (stays-held h before s.0) (always_good (Moved d e) (moves e d) q).0 s.1

  -- before the end tag it is innermost
  last-held : {n : Bytes} {frames frames' : List Frame} → Held frames → Move (closing n) frames frames' → length frames' ≡ length fs
      → (g : Frame) × (v : Value) × (frames ≡ g ∷ fs) × (g.kind ≡ property_element p v) × (is_other v ≡ b)
  last-held (held_at [] g v is o) m e = (g, v, refl, is, o)
  last-held {n} (held_at (x ∷ gs) g v is o) closes e =
      absurd (let l : length (left x.kind n (gs ++ (g ∷ fs))) ≡ length (gs ++ (g ∷ fs)) = left-length x.kind n (gs ++ (g ∷ fs)) in omega (arith, length-append gs (g ∷ fs)))

-- ---- its end tag

-- the lines of a property's end tag
abbrev Ends : Property → Bool → List Triple → Type 0
Ends p true us = us ≡ []
Ends p false us = (ws : List Triple) × (o : Term) × (us ≡ ws ++ statement p o)

end_value_lem : (p : Property) (v : Value) (l : Language) (d : Doc) → Always (λ s. Ends p (is_other v) s.0) (C.end_value p v l d)
unfolding C.end_value is_other
end_value_lem p (default t o) l d = ([], _, refl)
end_value_lem p (collection cs) l d = always_after (λ s. Ends p false s.0) _ _ (C.cells d.labels (named (rdf "nil")) cs, _, refl)
end_value_lem p (literal x) l d = always_after (λ s. Ends p false s.0) _ _ ([], _, refl)
end_value_lem p other l d = refl

end_lines_lem : (n : Bytes) (d : Doc) (g : Frame) (fs : List Frame) (p : Property) (v : Value) → d.frames ≡ g ∷ fs → g.kind ≡ property_element p v
    → Always (λ s. Ends p (is_other v) s.0) (next (closing n) d)
unfolding X.on_event C.close_element C.end_kind
end_lines_lem n d g fs p v e is =
    always_next (λ s. Ends p (is_other v) s.0) (closing n) d
    (rw e (always_after (λ s. Ends p (is_other v) s.0) _ _ (rw is (end_value_lem p v _ _))))

end_written : {d d' : Doc} (c : Element d d') (p : Property) (v : Value) → innermost c.begun.first.frames ≡ some (property_element p v) → Ends p (is_other v) c.end_lines
unfolding innermost
end_written {d} {d'} c p v is = go (on_top (always_good (Moved d start) (moves start d) c.begun.starts).0)
  where
    start : Event
    start = opening c.begun.name c.begun.attributes

    end : Event
    end = closing c.name

    lines : (fs : List Frame) → (g : Frame) × (w : Value) × (c.last.frames ≡ g ∷ fs) × (g.kind ≡ property_element p w) × (is_other w ≡ is_other v) → Ends p (is_other v) c.end_lines
    lines fs (g, w, e, k, o) = rw (← o) (always_good (λ s. Ends p (is_other w) s.0) (end_lines_lem c.name c.last g fs p w e k) c.ends)

    go : OnTop d.frames c.begun.first.frames → Ends p (is_other v) c.end_lines
    go (f, fs, e, l, n) =
        let k : f.kind ≡ property_element p v = some-injective _ _ (sym (ap innermost e) ∙ is) in
        let h : Held p (is_other v) fs c.begun.first.frames = rw e (held_at [] f v k refl) in
        let stays : StaysOpen (length fs) c.begun.inside = rw l c.begun.stays in
        lines fs (last-held p (is_other v) fs (stays-held p (is_other v) fs h c.begun.inside stays) (always_good (Moved c.last end) (moves end c.last) c.ends).0 (c.closes ∙ sym l))

-- A property element writes the statement of the property that its start tag began: at its end tag, or with parseType Resource at
-- its start tag; with any other parseType than Literal and Collection nowhere.
pub property-written : {d d' : Doc} (c : Element d d') (p : Property) → Begins p c.begun.start_lines c.begun.first → Writes p c
unfolding is_other
property-written c p (is_written x e k) = at_start x e k
property-written c p (is_open_lem v e) = go v e (end_written c p v e)
  where
    go : (v : Value) → innermost c.begun.first.frames ≡ some (property_element p v) → Ends p (is_other v) c.end_lines → Writes p c
    go (default t o) e h = at_end h.0 h.1 h.2
    go (collection cs) e h = at_end h.0 h.1 h.2
    go (literal x) e h = at_end h.0 h.1 h.2
    go other e h = nowhere h e
