-- A node element or a Collection, as long as it stays open, holds exactly what happened directly inside it: nothing deeper inside,
-- no text and nothing around it changes it.
use Rattle.std.specs.Prelude.{◌≡◌, refl, ◌⊎◌, Bool, true, false, ℕ, suc, ◌+◌, ◌<◌, eqb, length}
use Rattle.std.proofs.Common.{sym, ◌∙◌, ap, subst, inl, inr, true≢false, arith, length-append, eq-eqb, ne_eqb}
use Rattle.std.proofs.lemmas.Bool.{false≢true}
use Rattle.std.proofs.Math.Option.{some, some-injective}
use mathlib.Core.List.{List, [], ◌∷◌, ◌++◌, reverse_aux, reverse_aux-append}
use Rattle.spec.specs.Bytes.{Bytes, when◌then◌else◌}
use Rattle.spec.specs.Numbers.{good}
use Rattle.spec.specs.Namespaces.{declared, expand_element}
use Rattle.spec.specs.Pyx.{Attribute, Event, opening, closing, text, instruction}
use Rattle.spec.specs.NTriples.{Subject, Triple}
use Rattle.spec.specs.Document.{Value, default, collection, literal, other, Property, Kind, rdf_rdf, wrapper, node_element, property_element, xml_element, Part, Frame, Doc, with_kind, with_part, on_value, is_xml_element, change_value, in_scope, in_value, in_kind, place_in}
use Rattle.spec.specs.Productions.{is_li}
use Rattle.spec.specs.XmlLiteral.{takes_xml}
use Rattle.spec.specs.Opening.{is_xml, counted, count_li}
use Rattle.spec.specs.EndTag.{takes_node}
use Rattle.spec.specs.RdfXml.{takes_text}
use Rattle.spec.specs.Lists.{After, here, event}
use Rattle.spec.specs.Inside.{StaysOpen, node_subject, child_of, innermost, Begun, children_over, children, names_li, is_li_tag, li_of, lis_over, lis}
use Rattle.theorems.specs.Always.{always_good}
use Rattle.theorems.specs.Frames.{Gentle, by_text, by_xml, left, left-length, New, new-outside, OnTop, on_top, Move, instructs, leaves, adds, opens, copies, closes, Moved, moves}

-- ---- node elements and Collections

pub data Holder : Kind → Type 0 where
  a_node : {s : Subject} {li : ℕ} → Holder (node_element s li)
  a_collection : {p : Property} {cs : List Subject} → Holder (property_element p (collection cs))

-- with more children, in order, and more rdf:li
abbrev pub grown : Kind → List Subject → ℕ → Kind
grown rdf_rdf ss n = rdf_rdf
grown (wrapper b) ss n = wrapper b
grown (node_element s li) ss n = node_element s (li + n)
grown (property_element p (default d o)) ss n = property_element p (default d o)
grown (property_element p (collection cs)) ss n = property_element p (collection (reverse_aux ss cs))
grown (property_element p (literal x)) ss n = property_element p (literal x)
grown (property_element p other) ss n = property_element p other
grown xml_element ss n = xml_element

grown_none : {K : Kind} → Holder K → grown K [] 0 ≡ K
grown_none (a_node {s = s}) = ap (node_element s) (omega arith)
grown_none a_collection = refl

grown-holds : {K : Kind} (ss : List Subject) (n : ℕ) → Holder K → Holder (grown K ss n)
grown-holds ss n a_node = a_node
grown-holds ss n a_collection = a_collection

grown_more : {K : Kind} (ss ts : List Subject) (m n : ℕ) → Holder K → grown (grown K ss m) ts n ≡ grown K (ss ++ ts) (m + n)
grown_more ss ts m n (a_node {s = s}) = ap (node_element s) (omega arith)
grown_more ss ts m n (a_collection {p = p} {cs = cs}) = ap (λ (l : List Subject). property_element p (collection l)) (sym (reverse_aux-append ss ts cs))

not_xml : {K : Kind} → Holder K → is_xml_element K ≡ false
unfolding is_xml_element
not_xml a_node = refl
not_xml a_collection = refl

no_xml_inside : {K : Kind} → Holder K → is_xml (in_kind K) ≡ false
unfolding is_xml in_kind in_value
no_xml_inside a_node = refl
no_xml_inside a_collection = refl

text-nothing : {K : Kind} {g : Value → Value} → Gentle g → Holder K → on_value g K ≡ K
unfolding on_value takes_text takes_xml
text-nothing (by_text s) a_node = refl
text-nothing (by_text s) a_collection = refl
text-nothing (by_xml x) a_node = refl
text-nothing (by_xml x) a_collection = refl

node-child : {K : Kind} (s : Subject) → Holder K → on_value (takes_node s) K ≡ grown K (s ∷ []) 0
unfolding on_value takes_node
node-child s (a_node {s = t}) = ap (node_element t) (omega arith)
node-child s a_collection = refl

li-counted : {K : Kind} (i : Bytes) → Holder K → counted i K ≡ grown K [] (when is_li i then 1 else 0)
unfolding counted when◌then◌else◌
li-counted i (a_node {s = s} {li = li}) = ap (node_element s) (go (is_li i))
  where
    go : (b : Bool) → (when b then suc li else li) ≡ li + (when b then 1 else 0)
    go true = omega arith
    go false = omega arith
li-counted i a_collection = refl

-- ---- the elements above it

-- the element directly inside is none of Literal content
abbrev Based : List Frame → Type 0
Based [] = Unit {0}
Based (f ∷ []) = is_xml_element f.kind ≡ false
Based (f ∷ g ∷ gs) = Based (g ∷ gs)

pub value_xml : (h : Value → Value) (k : Kind) → is_xml_element (on_value h k) ≡ is_xml_element k
unfolding is_xml_element on_value
value_xml h rdf_rdf = refl
value_xml h (wrapper b) = refl
value_xml h (node_element s li) = refl
value_xml h (property_element p v) = refl
value_xml h xml_element = refl

counted_xml : (i : Bytes) (k : Kind) → is_xml_element (counted i k) ≡ is_xml_element k
unfolding is_xml_element counted
counted_xml i rdf_rdf = refl
counted_xml i (wrapper b) = refl
counted_xml i (node_element s li) = refl
counted_xml i (property_element p v) = refl
counted_xml i xml_element = refl

-- some elements, one at least, above others
abbrev Above : List Frame → List Frame → Type 0
Above rest fs = (y : Frame) × (ys : List Frame) × Based (y ∷ ys) × (fs ≡ y ∷ ys ++ rest)

-- what changes the innermost value changes none below them
value-above : (h : Value → Value) (x : Frame) (gs rest : List Frame) → Based (x ∷ gs) → Above rest (change_value h (x ∷ gs ++ rest))
unfolding change_value with_kind when◌then◌else◌
value-above h x [] rest b = (with_kind (on_value h x.kind) x, [], value_xml h x.kind ∙ b, rw b refl)
value-above h x (z ∷ gs) rest b = go (is_xml_element x.kind) (value-above h z gs rest b)
  where
    go : (t : Bool) → Above rest (change_value h (z ∷ gs ++ rest))
        → Above rest (when t then x ∷ change_value h (z ∷ gs ++ rest) else with_kind (on_value h x.kind) x ∷ z ∷ gs ++ rest)
    go true (y, ys, c, e) = (x, y ∷ ys, c, ap (x ∷◌) e)
    go false k = (with_kind (on_value h x.kind) x, z ∷ gs, b, refl)

count-above : (i : Bytes) (h : Part → Part) (x : Frame) (gs rest : List Frame) → Based (x ∷ gs) → Above rest (count_li i h (x ∷ gs ++ rest))
unfolding count_li with_kind with_part
count-above i h x [] rest b = (with_part (h x.part) (with_kind (counted i x.kind) x), [], counted_xml i x.kind ∙ b, refl)
count-above i h x (z ∷ gs) rest b = (with_part (h x.part) (with_kind (counted i x.kind) x), z ∷ gs, b, refl)

-- ---- one event

-- the element of kind K with the elements fs around it
pub data Open (fs : List Frame) (K : Kind) : List Frame → Type 0 where
  open_at : (gs : List Frame) (g : Frame) → g.kind ≡ K → Based gs → Open fs K (gs ++ (g ∷ fs))

-- still open, below others
open_above : (f : Frame) {g : Frame} {fs frames : List Frame} {K : Kind} → g.kind ≡ K → Above (g ∷ fs) frames → Open fs K (f ∷ frames)
open_above f {g} {fs} {frames} {K} is (y, ys, b, e) = rw e (open_at (f ∷ y ∷ ys) g is b)

open_below : {g : Frame} {fs frames : List Frame} {K : Kind} → g.kind ≡ K → Above (g ∷ fs) frames → Open fs K frames
open_below {g} {fs} {frames} {K} is (y, ys, b, e) = rw e (open_at (y ∷ ys) g is b)

-- with an element above it, the next event is not directly inside it
deeper : (x g : Frame) (gs fs : List Frame) → eqb (length (x ∷ gs ++ (g ∷ fs))) (suc (length fs)) ≡ false
deeper x g gs fs = ne_eqb (length (x ∷ gs ++ (g ∷ fs))) (suc (length fs)) λ e. omega (arith, length-append gs (g ∷ fs))

-- the same kind, and what it has grown to
same_kind_lem : {K : Kind} {frames fs : List Frame} → Holder K → Open fs K frames → Open fs (grown K [] 0) frames
same_kind_lem h o = rw (grown_none h) o

-- a change of the value, where it is innermost
change_innermost : (h : Value → Value) (g : Frame) (fs : List Frame) {K K' : Kind} → Holder K → g.kind ≡ K → on_value h K ≡ K' → Open fs K' (change_value h (g ∷ fs))
unfolding change_value with_kind when◌then◌else◌
change_innermost h g fs {K} {K'} holder is e =
    let no : is_xml_element g.kind ≡ false = ap is_xml_element is ∙ not_xml holder in
    rw no (open_at [] (with_kind (on_value h g.kind) g) (ap (on_value h) is ∙ e) tt)

on_text_lem : {g₀ : Value → Value} {fs : List Frame} {K : Kind} (gs : List Frame) (g : Frame) → Gentle g₀ → Holder K → g.kind ≡ K → Based gs
    → Open fs K (change_value g₀ (gs ++ (g ∷ fs)))
on_text_lem [] g m h is b = change_innermost _ g _ h is (text-nothing m h)
on_text_lem {fs = fs} (x ∷ gs) g m h is b = open_below is (value-above _ x gs (g ∷ fs) b)

-- an rdf:li counts only directly inside
li_direct : (n i : Bytes) (as' : List Attribute) (g : Frame) (fs : List Frame) → expand_element (declared as' ++ in_scope (g ∷ fs)) n ≡ good i
    → li_of (length fs) (opening n as') (g ∷ fs) ≡ (when is_li i then 1 else 0)
unfolding li_of is_li_tag names_li
li_direct n i as' g fs e = rw (eq-eqb (suc (length fs)) (suc (length fs)) refl, e) refl

li_deeper : (n : Bytes) (as' : List Attribute) (x g : Frame) (gs fs : List Frame) → li_of (length fs) (opening n as') (x ∷ gs ++ (g ∷ fs)) ≡ 0
unfolding li_of when◌then◌else◌
li_deeper n as' x g gs fs = rw (deeper x g gs fs) refl

on_start : {n : Bytes} {as' : List Attribute} {fs : List Frame} {K : Kind} (gs : List Frame) (g : Frame) {frames : List Frame} → Holder K → g.kind ≡ K → Based gs
    → Move (opening n as') (gs ++ (g ∷ fs)) frames → Open fs (grown K [] (li_of (length fs) (opening n as') (gs ++ (g ∷ fs)))) frames
unfolding count_li with_kind with_part place_in
on_start {n} {as'} {fs} {K} [] g {frames} h is b (opens {f = f} i n' e c) =
    rw (li_direct n i as' g fs e) (open_at (f ∷ []) (with_part (n' g.part) (with_kind (counted i g.kind) g)) (ap (counted i) is ∙ li-counted i h) (new-outside f.kind c))
on_start {n} {as'} {fs} {K} [] g {frames} h is b (copies x c k) = absurd (false≢true (sym (ap (λ (k : Kind). is_xml (in_kind k)) is ∙ no_xml_inside h) ∙ c))
on_start {n} {as'} {fs} {K} (z ∷ gs) g {frames} h is b (opens {f = f} i n' e c) =
    rw (li_deeper n as' z g gs fs) (open_above f (is ∙ sym (grown_none h)) (count-above i n' z gs (g ∷ fs) b))
on_start {n} {as'} {fs} {K} (z ∷ gs) g {frames} h is b (copies {f = f} x c k) =
    rw (li_deeper n as' z g gs fs) (open_above f (is ∙ sym (grown_none h)) (value-above (takes_xml x) z gs (g ∷ fs) b))

-- a child closes only directly inside
on_end : (n : Bytes) {fs : List Frame} {K : Kind} (f g : Frame) (gs : List Frame) → Holder K → g.kind ≡ K → Based (f ∷ gs)
    → Open fs (grown K (child_of (length fs) (closing n) (f ∷ gs ++ (g ∷ fs))) 0) (left f.kind n (gs ++ (g ∷ fs)))
unfolding child_of when◌then◌else◌ node_subject is_xml_element
on_end n {fs} {K} f g [] h is b = rw (eq-eqb (suc (length fs)) (suc (length fs)) refl) (go f.kind b)
  where
    go : (k : Kind) → is_xml_element k ≡ false → Open fs (grown K (node_subject k) 0) (left k n (g ∷ fs))
    go rdf_rdf b = open_at [] g (is ∙ sym (grown_none h)) tt
    go (wrapper w) b = open_at [] g (is ∙ sym (grown_none h)) tt
    go (node_element s li) b = change_innermost (takes_node s) g fs h is (node-child s h)
    go (property_element p v) b = open_at [] g (is ∙ sym (grown_none h)) tt
    go xml_element b = absurd (true≢false b)
on_end n {fs} {K} f g (x ∷ gs) h is b = rw (deeper x g gs fs) (go f.kind)
  where
    go : (k : Kind) → Open fs (grown K [] 0) (left k n (x ∷ gs ++ (g ∷ fs)))
    go rdf_rdf = open_at (x ∷ gs) g (is ∙ sym (grown_none h)) b
    go (wrapper w) = open_at (x ∷ gs) g (is ∙ sym (grown_none h)) b
    go (node_element s li) = open_below (is ∙ sym (grown_none h)) (value-above (takes_node s) x gs (g ∷ fs) b)
    go (property_element p v) = open_at (x ∷ gs) g (is ∙ sym (grown_none h)) b
    go xml_element = open_below (is ∙ sym (grown_none h)) (value-above _ x gs (g ∷ fs) b)

-- an end tag that is not its own
closed : {n : Bytes} {fs frames' : List Frame} {K : Kind} (gs : List Frame) (g : Frame) → Holder K → g.kind ≡ K → Based gs → Move (closing n) (gs ++ (g ∷ fs)) frames'
    → length fs < length frames' → Open fs (grown K (child_of (length fs) (closing n) (gs ++ (g ∷ fs))) 0) frames'
closed {n} {fs} [] g h is b closes more = absurd (let e : length (left g.kind n fs) ≡ length fs = left-length g.kind n fs in omega arith)
closed {n} (f ∷ gs) g h is b closes more = on_end n f g gs h is b

-- any event that leaves it open
step : {fs frames frames' : List Frame} {K : Kind} {e : Event} → Holder K → Open fs K frames → Move e frames frames' → length fs < length frames'
    → Open fs (grown K (child_of (length fs) e frames) (li_of (length fs) e frames)) frames'
unfolding child_of li_of
step {e = opening n as'} h (open_at gs g is b) m more = on_start gs g h is b m
step {e = closing n} h (open_at gs g is b) m more = closed gs g h is b m more
step {e = text s} h (open_at gs g is b) leaves more = open_at gs g (is ∙ sym (grown_none h)) b
step {e = text s} h (open_at gs g is b) (adds m) more = same_kind_lem h (on_text_lem gs g m h is b)
step {e = instruction} h (open_at gs g is b) instructs more = open_at gs g (is ∙ sym (grown_none h)) b

-- over accepted events
inside : {d₀ d : Doc} {ts : List Triple} {fs : List Frame} {K : Kind} → Holder K → Open fs K d₀.frames → (a : After d₀ d ts) → StaysOpen (length fs) a
    → Open fs (grown K (children_over (length fs) a) (lis_over (length fs) a)) d.frames
unfolding children_over lis_over
inside h o here s = same_kind_lem h o
inside {fs = fs} h o (event {d = d} before e d' us q) s =
    rw (← grown_more (children_over (length fs) before) (child_of (length fs) e d.frames) (lis_over (length fs) before) (li_of (length fs) e d.frames) h)
    (step (grown-holds _ _ h) (inside h o before s.0) (always_good (Moved d e) (moves e d) q).0 s.1)

-- behind a start tag
start_open : (fs : List Frame) {frames : List Frame} {K : Kind} → Holder K → OnTop fs frames → innermost frames ≡ some K
    → New K × ((gs : List Frame) × (length gs ≡ length fs) × Open gs K frames)
unfolding innermost is_xml_element
start_open fs {K = K} h (f, gs, e, l, n) is = (new n, (gs, l, rw e (open_at [] f k tt)))
  where
    k : f.kind ≡ K
    k = some-injective f.kind K (sym (ap innermost e) ∙ is)

    new : New f.kind ⊎ (f.kind ≡ xml_element) → New K
    new (inl c) = rw k at c
    new (inr x) = absurd (true≢false (ap is_xml_element (sym x ∙ k) ∙ not_xml h))

-- it is new behind its start tag, and from there on it holds what happened directly inside it
pub holds : {d d₂ : Doc} {K : Kind} (b : Begun d d₂) → Holder K → innermost b.first.frames ≡ some K
    → New K × ((fs : List Frame) × (length fs ≡ length d.frames) × Open fs (grown K (children b) (lis b)) d₂.frames)
unfolding children lis
holds {d} {d₂} {K} b h is =
    let o = start_open d.frames h (on_top (always_good (Moved d start) (moves start d) b.starts).0) is in (o.0, go o.1)
  where
    start : Event
    start = opening b.name b.attributes

    go : (fs : List Frame) × (length fs ≡ length d.frames) × Open fs K b.first.frames
        → (fs : List Frame) × (length fs ≡ length d.frames) × Open fs (grown K (children b) (lis b)) d₂.frames
    go (fs, e, o) = (
      fs,
      e,
      subst (λ (k : ℕ). (s : StaysOpen k b.inside) → Open fs (grown K (children_over k b.inside) (lis_over k b.inside)) d₂.frames) e (inside h o b.inside) b.stays,
    )

-- where it is innermost
pub innermost_open : {fs frames : List Frame} {K : Kind} → Open fs K frames → length frames ≡ suc (length fs) → (g : Frame) × (frames ≡ g ∷ fs) × (g.kind ≡ K)
innermost_open (open_at [] g is b) e = (g, refl, is)
innermost_open {fs} (open_at (x ∷ gs) g is b) e = absurd (omega (arith, length-append gs (g ∷ fs)))

-- before its end tag it is
pub end_open : {n : Bytes} {fs frames frames' : List Frame} {K : Kind} → Open fs K frames → Move (closing n) frames frames' → length frames' ≡ length fs
    → (g : Frame) × (frames ≡ g ∷ fs) × (g.kind ≡ K)
end_open {n} o (closes {f = f} {fs = gs}) e = innermost_open o (let l : length (left f.kind n gs) ≡ length gs = left-length f.kind n gs in omega arith)
