-- What is inherited comes from the elements around and from no other: when an element has closed, the language, the base and the
-- namespaces in force are those before it opened.
use Rattle.std.specs.Prelude.{◌≡◌, refl, Bool, true, false, ℕ, suc, ◌<◌, length}
use Rattle.std.proofs.Common.{sym, ◌∙◌, ap, arith, length-append}
use Rattle.std.proofs.Math.Option.{Option}
use mathlib.Core.List.{List, [], ◌∷◌, ◌++◌, tail-eq_of_cons-eq}
use Rattle.spec.specs.Bytes.{Bytes, when◌then◌else◌, or_else}
use Rattle.spec.specs.Numbers.{good}
use Rattle.spec.specs.Namespaces.{Binding}
use Rattle.spec.specs.Pyx.{Event, opening, closing, text, instruction}
use Rattle.spec.specs.NTriples.{Triple}
use Rattle.spec.specs.Document.{Value, Kind, rdf_rdf, wrapper, node_element, property_element, xml_element, Part, Frame, Doc, with_kind, with_part, is_xml_element, on_value, change_value, in_scope, language_in_force, base_in_force}
use Rattle.spec.specs.XmlLang.{Language, no_language, in_force}
use Rattle.spec.specs.Opening.{count_li}
use Rattle.spec.specs.RdfXml.{next}
use Rattle.spec.specs.Lists.{After, here, event}
use Rattle.spec.specs.Inside.{Said, said_of, said, StaysOpen, Begun, Element}
use Rattle.theorems.specs.Always.{always_good}
use Rattle.theorems.specs.Frames.{left, Move, instructs, leaves, adds, opens, copies, closes, Moved, moves}

-- ---- what the start tags said

pub said-value : (h : Value → Value) (fs : List Frame) → said (change_value h fs) ≡ said fs
unfolding said change_value with_kind when◌then◌else◌
said-value h [] = refl
said-value h (f ∷ fs) = go (is_xml_element f.kind) (said-value h fs)
  where
    go : (b : Bool) → said (change_value h fs) ≡ said fs → said (when b then f ∷ change_value h fs else with_kind (on_value h f.kind) f ∷ fs) ≡ said (f ∷ fs)
    go true e = rw e refl
    go false e = refl

pub said-count : (i : Bytes) (h : Part → Part) (fs : List Frame) → said (count_li i h fs) ≡ said fs
unfolding said count_li with_kind with_part
said-count i h [] = refl
said-count i h (f ∷ fs) = refl

said-left : (k : Kind) (n : Bytes) (fs : List Frame) → said (left k n fs) ≡ said fs
said-left rdf_rdf n fs = refl
said-left (wrapper b) n fs = refl
said-left (node_element s li) n fs = said-value _ fs
said-left (property_element p v) n fs = refl
said-left xml_element n fs = said-value _ fs

said-length : (fs : List Frame) → length (said fs) ≡ length fs
unfolding said
said-length [] = refl
said-length (f ∷ fs) = ap suc (said-length fs)

-- a start tag adds to it, an end tag takes the last away
abbrev Turn : Event → List Said → List Said → Type 0
Turn (opening n as') S S' = (x : Said) × (S' ≡ x ∷ S)
Turn (closing n) S S' = (x : Said) × (S ≡ x ∷ S')
Turn (text s) S S' = S' ≡ S
Turn instruction S S' = S' ≡ S

turns : {e : Event} {fs fs' : List Frame} → Move e fs fs' → Turn e (said fs) (said fs')
unfolding said
turns instructs = refl
turns leaves = refl
turns (adds {fs = fs} m) = said-value _ fs
turns (opens {f = f} {fs = fs} i h e c) = (said_of f, ap (said_of f ∷◌) (said-count i h fs))
turns (copies {f = f} {fs = fs} x c k) = (said_of f, ap (said_of f ∷◌) (said-value _ fs))
turns (closes {n = n} {f = f} {fs = fs}) = (said_of f, ap (said_of f ∷◌) (sym (said-left f.kind n fs)))

turn : (e : Event) (d d' : Doc) {us : List Triple} → next e d ≡ good (us, d') → Turn e (said d.frames) (said d'.frames) × (d'.start_base ≡ d.start_base)
turn e d d' q = let m = always_good (Moved d e) (moves e d) q in (turns m.0, m.1)

-- the start base stays
pub start_kept : {d₀ d : Doc} {ts : List Triple} → After d₀ d ts → d.start_base ≡ d₀.start_base
start_kept here = refl
start_kept (event {d = d} before e d' us q) = (turn e d d' q).1 ∙ start_kept before

-- ---- below an open element all stays as it was

-- the open elements S with x and others on top
abbrev pub On : Said → List Said → List Said → Type 0
On x S T = (Y : List Said) × (T ≡ Y ++ (x ∷ S))

on_turn : (e : Event) (x : Said) (S T T' : List Said) → On x S T → Turn e T T' → length S < length T' → On x S T'
on_turn (opening n as') x S T T' (Y, o) (y, t) more = (y ∷ Y, t ∙ ap (y ∷◌) o)
on_turn (closing n) x S T T' ([], o) (y, t) more = absurd (let e : T' ≡ S = tail-eq_of_cons-eq (sym t ∙ o) in omega (arith, ap length e))
on_turn (closing n) x S T T' (z ∷ Y, o) (y, t) more = (Y, tail-eq_of_cons-eq (sym t ∙ o))
on_turn (text s) x S T T' o t more = rw t o
on_turn instruction x S T T' o t more = rw t o

stays_on : {d₀ d : Doc} {ts : List Triple} (k : ℕ) (x : Said) (S : List Said) → length S ≡ k → On x S (said d₀.frames) → (a : After d₀ d ts) → StaysOpen k a
    → On x S (said d.frames) × (d.start_base ≡ d₀.start_base)
stays_on k x S l o here s = (o, refl)
stays_on k x S l o (event {d = d} before e d' us q) s =
    let h = stays_on k x S l o before s.0 in
    let t = turn e d d' q in
    let more : length S < length (said d'.frames) = let m : k < length d'.frames = s.1 in omega (arith, said-length d'.frames) in
    (on_turn e x S _ _ h.0 t.0 more, t.1 ∙ h.1)

-- as long as an element is open, its start tag and those around it say what they said
pub around_kept : {d d₂ : Doc} (b : Begun d d₂)
    → (x : Said) × (said b.first.frames ≡ x ∷ said d.frames) × On x (said d.frames) (said d₂.frames) × (d₂.start_base ≡ d.start_base)
around_kept {d} {d₂} b =
    let t = turn (opening b.name b.attributes) d b.first b.starts in
    let h = stays_on (length d.frames) t.0.0 (said d.frames) (said-length d.frames) ([], t.0.1) b.inside b.stays in
    (t.0.0, t.0.1, h.0, h.1 ∙ t.1)

last_off : (x y : Said) (S T T' : List Said) → On x S T → T ≡ y ∷ T' → length T' ≡ length S → T' ≡ S
last_off x y S T T' ([], o) e l = tail-eq_of_cons-eq (sym e ∙ o)
last_off x y S T T' (z ∷ Y, o) e l =
    absurd (let k : T' ≡ Y ++ (x ∷ S) = tail-eq_of_cons-eq (sym e ∙ o) in omega (arith, ap length k, length-append Y (x ∷ S)))

-- when it has closed, too
said-again : {d d' : Doc} → Element d d' → (said d'.frames ≡ said d.frames) × (d'.start_base ≡ d.start_base)
said-again {d} {d'} c =
    let h = around_kept c.begun in
    let t = turn (closing c.name) c.last d' c.ends in
    (last_off h.0 t.0.0 _ _ _ h.2 t.0.1 (said-length d'.frames ∙ (c.closes ∙ sym (said-length d.frames))), t.1 ∙ h.3)

-- ---- what is in force was said

language_said : List Said → Language
language_said [] = no_language
language_said (x ∷ S) = in_force x.3 (language_said S)

language-said : (fs : List Frame) → language_in_force fs ≡ language_said (said fs)
unfolding language_in_force language_said said
language-said [] = refl
language-said (f ∷ fs) = rw (language-said fs) refl

pub same-language : (fs gs : List Frame) → said fs ≡ said gs → language_in_force fs ≡ language_in_force gs
same-language fs gs e = language-said fs ∙ (ap language_said e ∙ sym (language-said gs))

base_said : Option Bytes → List Said → Option Bytes
base_said start [] = start
base_said start (x ∷ S) = or_else x.2 (base_said start S)

base-said : (start : Option Bytes) (fs : List Frame) → base_in_force start fs ≡ base_said start (said fs)
unfolding base_in_force base_said said
base-said start [] = refl
base-said start (f ∷ fs) = rw (base-said start fs) refl

-- an rdf:li that is counted changes neither
pub base-count : (i : Bytes) (h : Part → Part) (b : Option Bytes) (fs : List Frame) → base_in_force b (count_li i h fs) ≡ base_in_force b fs
base-count i h b fs = base-said b (count_li i h fs) ∙ (ap (base_said b) (said-count i h fs) ∙ sym (base-said b fs))

pub language-count : (i : Bytes) (h : Part → Part) (fs : List Frame) → language_in_force (count_li i h fs) ≡ language_in_force fs
language-count i h fs = same-language (count_li i h fs) fs (said-count i h fs)

scope_said : List Said → List Binding
scope_said [] = []
scope_said (x ∷ S) = x.1 ++ scope_said S

scope-said : (fs : List Frame) → in_scope fs ≡ scope_said (said fs)
unfolding in_scope scope_said said
scope-said [] = refl
scope-said (f ∷ fs) = rw (scope-said fs) refl

said-innermost : (x : Said) (S T : List Said) → On x S T → length T ≡ suc (length S) → T ≡ x ∷ S
said-innermost x S T ([], o) l = o
said-innermost x S T (y ∷ Y, o) l = absurd (omega (arith, ap length o, length-append Y (x ∷ S)))

-- whenever an element is innermost again, the language in force is that behind its start tag
own_language : {d d₂ : Doc} (b : Begun d d₂) → length d₂.frames ≡ suc (length d.frames) → language_in_force d₂.frames ≡ language_in_force b.first.frames
own_language {d} {d₂} b l =
    let h = around_kept b in
    let e : said d₂.frames ≡ said b.first.frames =
    said-innermost h.0 _ _ h.2 (said-length d₂.frames ∙ (l ∙ ap suc (sym (said-length d.frames)))) ∙ sym h.1 in
    same-language d₂.frames b.first.frames e

-- so at its end tag
pub last-language : {d d' : Doc} (c : Element d d') → language_in_force c.last.frames ≡ language_in_force c.begun.first.frames
last-language {d} {d'} c =
    let t = turn (closing c.name) c.last d' c.ends in
    own_language c.begun (sym (said-length c.last.frames) ∙ (ap length t.0.1 ∙ ap suc (said-length d'.frames ∙ c.closes)))

-- When an element has closed, the language, the base and the namespaces in force are those before it opened: nothing of it, and
-- nothing inside it, reaches what stands after it.
pub balanced : {d d' : Doc} → Element d d'
    → (language_in_force d'.frames ≡ language_in_force d.frames)
    × (base_in_force d'.start_base d'.frames ≡ base_in_force d.start_base d.frames)
    × (in_scope d'.frames ≡ in_scope d.frames)
balanced {d} {d'} c =
    let h = said-again c in (
      same-language d'.frames d.frames h.0,
      base-said d'.start_base d'.frames ∙ (cc (h.0, h.1, base-said d.start_base d.frames)),
      scope-said d'.frames ∙ (ap scope_said h.0 ∙ sym (scope-said d.frames)),
    )
