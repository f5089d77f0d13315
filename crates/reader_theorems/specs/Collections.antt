-- An element closes as a Collection if and only if it was opened as one.
use Rattle.std.specs.Prelude.{ℕ, suc, ◌≤◌, ◌≡◌, refl, Bool, true, false, length}
use Rattle.std.proofs.Common.{sym, ap, ◌∙◌, arith, length-append}
use Rattle.std.proofs.Math.Option.{Option, none, some, some-injective}
use mathlib.Core.List.{List, [], ◌∷◌, ◌++◌, head-eq_of_cons-eq, tail-eq_of_cons-eq}
use Rattle.spec.specs.Bytes.{Bytes, when◌then◌else◌}
use Rattle.spec.specs.Numbers.{good}
use Rattle.spec.specs.Pyx.{Event, opening, closing, text, instruction}
use Rattle.spec.specs.NTriples.{Subject, Triple}
use Rattle.spec.specs.Document.{Value, default, collection, literal, other, Property, Kind, rdf_rdf, wrapper, node_element, property_element, xml_element, Part, Frame, Doc, with_kind, with_part, on_value, is_xml_element, change_value}
use Rattle.spec.specs.XmlLiteral.{takes_xml}
use Rattle.spec.specs.Opening.{counted, count_li}
use Rattle.spec.specs.EndTag.{takes_node}
use Rattle.spec.specs.RdfXml.{takes_text, next}
use Rattle.spec.specs.Lists.{After, here, event}
use Rattle.spec.specs.Inside.{StaysOpen, Element, innermost}
use Rattle.theorems.specs.Always.{always_good}
use Rattle.theorems.specs.Frames.{Gentle, by_text, by_xml, left, Move, instructs, leaves, adds, opens, copies, closes, Moved, moves}
use Rattle.theorems.specs.Inside.{a_collection, holds}
use Rattle.reader_theorems.specs.Elements as elements

-- the innermost open element is a Collection of this property
abbrev pub InCollection : Property → List Frame → Type 0
InCollection p fs = (cs : List Subject) × (innermost fs ≡ some (property_element p (collection cs)))

-- ---- which of the open elements are Collections

-- of which property
unfoldable list_of : Kind → Option Property
list_of rdf_rdf = none
list_of (wrapper b) = none
list_of (node_element s li) = none
list_of (property_element p (default d o)) = none
list_of (property_element p (collection cs)) = some p
list_of (property_element p (literal x)) = none
list_of (property_element p other) = none
list_of xml_element = none

unfoldable lists : List Frame → List (Option Property)
lists [] = []
lists (f ∷ fs) = list_of f.kind ∷ lists fs

lists_length : (fs : List Frame) → length (lists fs) ≡ length fs
unfolding lists
lists_length [] = refl
lists_length (f ∷ fs) = ap suc (lists_length fs)

-- a change of value that makes no Collection of another, and leaves one
abbrev Keeps : (Value → Value) → Type 0
Keeps h = (p : Property) (v : Value) → list_of (property_element p (h v)) ≡ list_of (property_element p v)

node-keeps : (s : Subject) → Keeps (takes_node s)
unfolding list_of takes_node
node-keeps s p (default d o) = refl
node-keeps s p (collection cs) = refl
node-keeps s p (literal x) = refl
node-keeps s p other = refl

text-keeps : {g : Value → Value} → Gentle g → Keeps g
unfolding list_of takes_text takes_xml
text-keeps (by_text s) p (default d o) = refl
text-keeps (by_text s) p (collection cs) = refl
text-keeps (by_text s) p (literal x) = refl
text-keeps (by_text s) p other = refl
text-keeps (by_xml x) p (default d o) = refl
text-keeps (by_xml x) p (collection cs) = refl
text-keeps (by_xml x) p (literal y) = refl
text-keeps (by_xml x) p other = refl

kind_kept : (h : Value → Value) → Keeps h → (k : Kind) → list_of (on_value h k) ≡ list_of k
unfolding on_value
kind_kept h c rdf_rdf = refl
kind_kept h c (wrapper b) = refl
kind_kept h c (node_element s li) = refl
kind_kept h c (property_element p v) = c p v
kind_kept h c xml_element = refl

value_kept : (h : Value → Value) → Keeps h → (fs : List Frame) → lists (change_value h fs) ≡ lists fs
unfolding lists change_value with_kind when◌then◌else◌
value_kept h c [] = refl
value_kept h c (f ∷ fs) = go (is_xml_element f.kind) (value_kept h c fs)
  where
    go : (b : Bool) → lists (change_value h fs) ≡ lists fs → lists (when b then f ∷ change_value h fs else with_kind (on_value h f.kind) f ∷ fs) ≡ lists (f ∷ fs)
    go true e = ap (list_of f.kind ∷◌) e
    go false e = ap (◌∷ lists fs) (kind_kept h c f.kind)

count_kept : (i : Bytes) (h : Part → Part) (fs : List Frame) → lists (count_li i h fs) ≡ lists fs
unfolding lists count_li with_kind with_part list_of counted
count_kept i h [] = refl
count_kept i h (f ∷ fs) = ap (◌∷ lists fs) (go f.kind)
  where
    go : (k : Kind) → list_of (counted i k) ≡ list_of k
    go rdf_rdf = refl
    go (wrapper b) = refl
    go (node_element s li) = refl
    go (property_element p v) = refl
    go xml_element = refl

left_kept : (k : Kind) (n : Bytes) (fs : List Frame) → lists (left k n fs) ≡ lists fs
left_kept rdf_rdf n fs = refl
left_kept (wrapper b) n fs = refl
left_kept (node_element s li) n fs = value_kept _ (node-keeps s) fs
left_kept (property_element p v) n fs = refl
left_kept xml_element n fs = value_kept _ (text-keeps (by_xml _)) fs

-- a start tag adds to them, an end tag takes the last away
abbrev Turn : Event → List (Option Property) → List (Option Property) → Type 0
Turn (opening n as') S S' = (x : Option Property) × (S' ≡ x ∷ S)
Turn (closing n) S S' = (x : Option Property) × (S ≡ x ∷ S')
Turn (text s) S S' = S' ≡ S
Turn instruction S S' = S' ≡ S

turns : {e : Event} {fs fs' : List Frame} → Move e fs fs' → Turn e (lists fs) (lists fs')
unfolding lists
turns instructs = refl
turns leaves = refl
turns (adds {fs = fs} m) = value_kept _ (text-keeps m) fs
turns (opens {f = f} {fs = fs} i h e c) = (list_of f.kind, ap (list_of f.kind ∷◌) (count_kept i h fs))
turns (copies {f = f} {fs = fs} x c k) = (list_of f.kind, ap (list_of f.kind ∷◌) (value_kept _ (text-keeps (by_xml x)) fs))
turns (closes {n = n} {f = f} {fs = fs}) = (list_of f.kind, ap (list_of f.kind ∷◌) (sym (left_kept f.kind n fs)))

turn : (e : Event) (d d' : Doc) {us : List Triple} → next e d ≡ good (us, d') → Turn e (lists d.frames) (lists d'.frames)
turn e d d' q = turns (always_good (Moved d e) (moves e d) q).0

-- those below an element stay as long as it is open
abbrev On : List (Option Property) → List (Option Property) → Type 0
On S T = (Y : List (Option Property)) × (T ≡ Y ++ S)

on_turn : (e : Event) (S T T' : List (Option Property)) → On S T → Turn e T T' → length S ≤ length T' → On S T'
on_turn (opening n as') S T T' (Y, o) (y, t) more = (y ∷ Y, t ∙ ap (y ∷◌) o)
on_turn (closing n) S T T' ([], o) (y, t) more = absurd (omega (arith, ap length o, ap length t))
on_turn (closing n) S T T' (z ∷ Y, o) (y, t) more = (Y, tail-eq_of_cons-eq (sym t ∙ o))
on_turn (text s) S T T' (Y, o) t more = (Y, t ∙ o)
on_turn instruction S T T' (Y, o) t more = (Y, t ∙ o)

stays_on : {d₀ d : Doc} {ts : List Triple} (k : ℕ) (a : After d₀ d ts) → length d₀.frames ≡ suc k → StaysOpen k a → On (lists d₀.frames) (lists d.frames)
stays_on k here l s = ([], refl)
stays_on {d₀} k (event {d = d} a e d' us q) l s =
    on_turn e _ _ _ (stays_on k a l s.0) (turn e d d' q) (omega (arith, s.1, lists_length d₀.frames, lists_length d'.frames))

on_same : (S T : List (Option Property)) → On S T → length T ≡ length S → T ≡ S
on_same S T ([], o) l = o
on_same S T (y ∷ Y, o) l = absurd (omega (arith, ap length o, length-append Y S))

-- ---- the innermost of them

no_list : {p : Property} → ◌≡◌ {A = Option Property} none (some p) → ⊥
no_list e = let z : ◌≡◌ {A = ℕ} 0 1 = cc in omega arith

in_list : (p : Property) (f : Frame) (fs : List Frame) → list_of f.kind ≡ some p → InCollection p (f ∷ fs)
unfolding list_of innermost
in_list p f fs = go f.kind
  where
    go : (k : Kind) → list_of k ≡ some p → (cs : List Subject) × (some k ≡ some (property_element p (collection cs)))
    go rdf_rdf e = absurd (no_list e)
    go (wrapper b) e = absurd (no_list e)
    go (node_element s li) e = absurd (no_list e)
    go (property_element q (default d o)) e = absurd (no_list e)
    go (property_element q (collection cs)) e = (cs, cc)
    go (property_element q (literal x)) e = absurd (no_list e)
    go (property_element q other) e = absurd (no_list e)
    go xml_element e = absurd (no_list e)

same_in : (p : Property) (fs gs : List Frame) → lists gs ≡ lists fs → InCollection p fs → InCollection p gs
unfolding lists list_of innermost
same_in p [] gs e (cs, is) = absurd (let z : ◌≡◌ {A = ℕ} 0 1 = cc in omega arith)
same_in p (f ∷ fs) [] e h = absurd (omega (arith, ap length e))
same_in p (f ∷ fs) (g ∷ gs) e (cs, is) = in_list p g gs (head-eq_of_cons-eq e ∙ ap list_of (some-injective f.kind _ is))

-- ---- at both tags of an element

-- the same elements are Collections before its end tag as behind its start tag
lists-same : {d d' : Doc} (c : Element d d') → lists c.last.frames ≡ lists c.begun.first.frames
lists-same {d} {d'} c =
    let b = c.begun in
    let first : length b.first.frames ≡ suc (length d.frames) = elements.turn (opening b.name b.attributes) d b.first b.starts in
    let last : length c.last.frames ≡ suc (length d'.frames) = elements.turn (closing c.name) c.last d' c.ends in
    on_same _ _ (stays_on (length d.frames) b.inside first b.stays) (omega (arith, first, last, c.closes, lists_length c.last.frames, lists_length b.first.frames))

-- what closes as a Collection was opened as one, without children
pub began : {d d' : Doc} (c : Element d d') (p : Property) → InCollection p c.last.frames → innermost c.begun.first.frames ≡ some (property_element p (collection []))
began c p h =
    let i : InCollection p c.begun.first.frames = same_in p c.last.frames c.begun.first.frames (sym (lists-same c)) h in
    i.1 ∙ ap (λ (cs : List Subject). some (property_element p (collection cs))) (holds c.begun a_collection i.1).0

-- what was opened as a Collection closes as one
pub stayed : {d d' : Doc} (c : Element d d') (p : Property) → InCollection p c.begun.first.frames → InCollection p c.last.frames
stayed c p h = same_in p c.begun.first.frames c.last.frames (lists-same c) h
