-- Document 02, request 1: a packet accepted in the XMP profile gives the lines that the base gives for its rdf:RDF.
use Rattle.std.specs.Prelude.{◌≡◌, Bool, true, false, ◌&&◌, ℕ, suc, eqb, length}
use Rattle.std.proofs.Math.Path.{refl, ap, subst}
use Rattle.std.proofs.Common.{sym, ◌∙◌, true≢false, arith}
use Rattle.std.proofs.Math.Bool.{not}
use Rattle.std.proofs.Math.Option.{Option}
use mathlib.Core.List.{List, [], ◌∷◌, ◌++◌, map}
use Rattle.spec.specs.XmlLang.{Language}
use Rattle.spec.specs.Bytes.{Bytes, when◌then◌else◌, is_empty, total, ◌>>=◌, ◌>>◌, require◌or◌}
use Rattle.spec.specs.Numbers.{number, Answer, refuse, good}
use Rattle.spec.specs.declared.Refusal.{Refusal}
use Rattle.spec.specs.declared.Refusal.TheVariants.{NotWellFormed, OverLimit, NoNamespace, Reserved, StrayText, EmptyLiteral, LabelsSpent, ProfileBroken}
use Rattle.spec.specs.Modes.{base_mode, xmp_mode}
use Rattle.spec.specs.Pyx.{Attribute, Event, opening, closing, text, instruction}
use Rattle.spec.specs.Namespaces.{declared, all_legal}
use Rattle.spec.specs.NTriples.{Triple}
use Rattle.spec.specs.Document.{Value, default, collection, literal, other, Property, Kind, rdf_rdf, wrapper, node_element, property_element, xml_element, Part, ordinary, Frame, Doc, fresh, with_frames, with_labels, with_kind, with_part, on_value, is_xml_element, change_value, in_scope, language_in_force, base_in_force, Place, outside, nodes, nodes_or_text, xml, properties, place_in, frame_bytes, held_bytes, fits}
use Rattle.spec.specs.StartTag.{Tag, read_tag, is_short}
use Rattle.spec.specs.Productions.{Opened, open_node, open_property, open_root}
use Rattle.spec.specs.XmlLiteral.{add_xml}
use Rattle.spec.specs.XmlLiteral as X
use Rattle.spec.specs.Xmp.{starts_wrapper, open_wrapper, wrapped, new_part, noted}
use Rattle.spec.specs.Opening.{Step, is_second_root, counts_fit, copy_element, count_li, enter, opened, under_rules, open_element, open_in, repeated, on_opening}
use Rattle.spec.specs.EndTag.{takes_node, end_value, end_kind, close_element}
use Rattle.spec.specs.RdfXml.{is_blank, takes_text, on_text, on_event, within, next, finish}
use Rattle.spec.specs.Lists.{After, here, event}
use Rattle.spec.specs.Packets.{bare, in_base, Packet, unwrapped, in_wrapper}
use Rattle.spec.proofs.Booleans.{and_left, and_both}
use Rattle.std.proofs.lemmas.Bool.{not-true}
use Rattle.theorems.specs.Always.{Always, always_any, always_after, always_require, always_good}
use Rattle.spec.specs.Calls.{State, is_open, is_closed, unlawful}
use Rattle.theorems.specs.Frames.{always_next}
use Rattle.theorems.specs.Calls.{Steps, Holds, written, always_lawful}
use Rattle.theorems.specs.Changes.{Change, stays, takes_text_lem, takes_xml_lem, copies, opens, wraps, ends_root, ends_wrapper, ends_node, ends_property, ends_xml, always_holds}
use Rattle.theorems.specs.Rules.{Wrapping, wrapping, no_rules, no_wrapper, Unwrapped}

-- ---- nothing but the profile asks what is remembered for it

scope-bare : (fs : List Frame) → in_scope (map bare fs) ≡ in_scope fs
unfolding in_scope with_part
scope-bare [] = refl
scope-bare (f ∷ fs) = rw (scope-bare fs)

base-bare : (b : Option Bytes) (fs : List Frame) → base_in_force b (map bare fs) ≡ base_in_force b fs
unfolding base_in_force with_part
base-bare b [] = refl
base-bare b (f ∷ fs) = rw (base-bare b fs)

language-bare : (fs : List Frame) → language_in_force (map bare fs) ≡ language_in_force fs
unfolding language_in_force with_part
language-bare [] = refl
language-bare (f ∷ fs) = rw (language-bare fs)

place_bare : (fs : List Frame) → place_in (map bare fs) ≡ place_in fs
unfolding place_in with_part
place_bare [] = refl
place_bare (f ∷ fs) = refl

length-bare : (fs : List Frame) → length (map bare fs) ≡ length fs
length-bare [] = refl
length-bare (f ∷ fs) = ap suc (length-bare fs)

empty-bare : (fs : List Frame) → is_empty (map bare fs) ≡ is_empty fs
unfolding is_empty
empty-bare [] = refl
empty-bare (f ∷ fs) = refl

held-bare : (fs : List Frame) → total frame_bytes (map bare fs) ≡ total frame_bytes fs
unfolding total frame_bytes with_part
held-bare [] = refl
held-bare (f ∷ fs) = rw (held-bare fs)

change_bare : (g : Value → Value) (fs : List Frame) → change_value g (map bare fs) ≡ map bare (change_value g fs)
unfolding change_value with_part with_kind when◌then◌else◌
change_bare g [] = refl
change_bare g (f ∷ fs) = go (is_xml_element f.kind) (change_bare g fs)
  where
    go : (b : Bool) → change_value g (map bare fs) ≡ map bare (change_value g fs)
        → (when b then bare f ∷ change_value g (map bare fs) else with_kind (on_value g f.kind) (bare f) ∷ map bare fs) ≡ map bare (when b then f ∷ change_value g fs else with_kind (on_value g f.kind) f ∷ fs)
    go true e = ap (bare f ∷◌) e
    go false e = refl

count-bare : (i : Bytes) (h : Part → Part) (fs : List Frame) → count_li i (λ p. p) (map bare fs) ≡ map bare (count_li i h fs)
unfolding count_li with_kind with_part
count-bare i h [] = refl
count-bare i h (f ∷ fs) = refl

tag-bare : (n : Bytes) (as' : List Attribute) (d : Doc) → read_tag n as' (in_base d) ≡ read_tag n as' d
unfolding read_tag in_base
tag-bare n as' d = rw (scope-bare d.frames, base-bare d.start_base d.frames, language-bare d.frames)

fits-bare : (d : Doc) → fits (in_base d) ≡ fits d
unfolding fits held_bytes in_base
fits-bare d = rw (held-bare d.frames)

-- ---- whatever is accepted, the base accepts with the same lines

abbrev Follows : Answer Step → Answer Step → Type 0
Follows (refuse n) a = Unit {0}
Follows (good s) a = a ≡ good (s.0, in_base s.1)

follows_require : (b b₀ : Bool) (n : Refusal) (m m₀ : Answer Step) → b₀ ≡ b → (b ≡ true → Follows m m₀) → Follows ((require b or n) >> m) ((require b₀ or n) >> m₀)
unfolding ◌>>◌ require◌or◌
follows_require true b₀ n m m₀ e k = rw e (k refl)
follows_require false b₀ n m m₀ e k = tt

follows-tag : (a : Answer Tag) (f f₀ : Tag → Answer Step) → ((t : Tag) → Follows (f t) (f₀ t)) → Follows (a >>= f) (a >>= f₀)
unfolding ◌>>=◌
follows-tag (refuse n) f f₀ k = tt
follows-tag (good t) f f₀ k = k t

follows_after : {A : Type 0} (a : Answer A) (m m₀ : Answer Step) → Follows m m₀ → Follows (a >> m) (a >> m₀)
unfolding ◌>>◌
follows_after (refuse n) m m₀ k = tt
follows_after (good u) m m₀ k = k

follows_rules : (r : Answer (Unit {0})) (a : Answer Opened) (f f₀ : Opened → Answer Step) → ((o : Opened) → Follows (f o) (f₀ o)) → Follows (under_rules r a >>= f) (a >>= f₀)
unfolding ◌>>=◌ under_rules when◌then◌else◌
follows_rules (good u) (refuse n) f f₀ k = tt
follows_rules (good u) (good o) f f₀ k = k o
follows_rules (refuse r) (good o) f f₀ k = tt
follows_rules (refuse r) (refuse q) f f₀ k = go (eqb (number q) (number Reserved))
  where
    go : (b : Bool) → Follows ((when b then refuse q else refuse r) >>= f) (refuse q >>= f₀)
    go true = tt
    go false = tt

-- ---- start tags

opened-bare : (t : Tag) (d : Doc) (o : Opened) → opened t (in_base d) o ≡ ((opened t d o).0, in_base (opened t d o).1)
unfolding opened in_base new_part noted with_part
opened-bare t d o =
    let f : Frame = record { name = t.name; bindings = t.bindings; own_base = t.own_base; own_tag = t.own_tag; kind = o.kind; part = ordinary } in
    ap (λ (fs : List Frame). (o.lines, record { mode = base_mode; start_base = d.start_base; frames = f ∷ fs; rooted = true; labels = o.labels; ids = enter t.id d.ids }))
    (count-bare t.iri (noted d.mode.xmp t) d.frames)

open_element_lem : (production : Tag → ℕ → Answer Opened) (n : Bytes) (as' : List Attribute) (d : Doc) → Follows (open_element production n as' d) (open_element production n as' (in_base d))
unfolding open_element in_base
open_element_lem production n as' d =
    rw (tag-bare n as' d)
    (follows-tag (read_tag n as' d) _ _ λ t.
    rw (no_rules (in_base d).mode (in_base d).frames t (production t (in_base d).labels) (unfold in_base in refl))
    (follows_rules _ (production t d.labels) _ _ λ o.
    follows_require (is_short t) (is_short t) OverLimit _ _ refl λ s. ap good (opened-bare t d o)))

copy_element_lem : (n : Bytes) (as' : List Attribute) (d : Doc) → Follows (copy_element n as' d) (copy_element n as' (in_base d))
unfolding copy_element add_xml with_frames in_base with_part
copy_element_lem n as' d =
    rw (scope-bare d.frames, change_bare (X.takes_xml (X.start_tag_xml n as')) d.frames)
    (follows_require _ _ NoNamespace _ _ refl λ k. follows_after _ _ _ refl)

open_in_lem : (p : Place) (n : Bytes) (as' : List Attribute) (d : Doc) → starts_wrapper d.mode.xmp n as' d.frames ≡ false
    → Follows (open_in p n as' d) (open_in p n as' (in_base d))
unfolding open_in when◌then◌else◌
open_in_lem outside n as' d w = rw (w, no_wrapper (in_base d).mode n as' (in_base d).frames (unfold in_base in refl)) (open_element_lem open_root n as' d)
open_in_lem nodes n as' d w = open_element_lem open_node n as' d
open_in_lem nodes_or_text n as' d w = open_element_lem open_node n as' d
open_in_lem (properties s li) n as' d w = open_element_lem (λ t. open_property t s li) n as' d
open_in_lem xml n as' d w = copy_element_lem n as' d

formed_bare : (n : Bytes) (as' : List Attribute) (d : Doc) → (not (is_second_root (in_base d)) && (all_legal (declared as') && not (repeated (place_in d.frames) as' (in_base d))))
    ≡ (not (is_second_root d) && (all_legal (declared as') && not (repeated (place_in d.frames) as' d)))
unfolding is_second_root repeated in_base
formed_bare n as' d = rw (empty-bare d.frames, scope-bare d.frames)

counts-bare : (as' : List Attribute) (d : Doc) → counts_fit as' (in_base d).frames ≡ counts_fit as' d.frames
unfolding counts_fit in_base
counts-bare as' d = rw (length-bare d.frames, scope-bare d.frames)

on_opening_lem : (n : Bytes) (as' : List Attribute) (d : Doc) → starts_wrapper d.mode.xmp n as' d.frames ≡ false
    → Follows (on_opening n as' d) (on_opening n as' (in_base d))
unfolding on_opening
on_opening_lem n as' d w =
    let p : place_in (in_base d).frames ≡ place_in d.frames = unfold in_base in place_bare d.frames in
    rw p
    (follows_require _ _ NotWellFormed _ _ formed λ a. follows_require _ _ OverLimit _ _ counts λ c. open_in_lem (place_in d.frames) n as' d w)
  where
    formed : (not (is_second_root (in_base d)) && (all_legal (declared as') && not (repeated (place_in d.frames) as' (in_base d))))
        ≡ (not (is_second_root d) && (all_legal (declared as') && not (repeated (place_in d.frames) as' d)))
    formed = formed_bare n as' d

    counts : counts_fit as' (in_base d).frames ≡ counts_fit as' d.frames
    counts = counts-bare as' d

-- ---- end tags

end_value_lem : (p : Property) (v : Value) (l : Language) (d : Doc) → Follows (end_value p v l d) (end_value p v l (in_base d))
unfolding end_value in_base with_labels
end_value_lem p (default t o) l d = refl
end_value_lem p (collection cs) l d = follows_require _ _ LabelsSpent _ _ refl λ k. refl
end_value_lem p (literal x) l d = follows_require _ _ EmptyLiteral _ _ refl λ k. refl
end_value_lem p other l d = refl

-- what a property holds is changed
changed : (g : Value → Value) (d : Doc) → with_frames (change_value g (in_base d).frames) (in_base d) ≡ in_base (with_frames (change_value g d.frames) d)
unfolding with_frames in_base
changed g d = ap (λ (fs : List Frame). record { mode = base_mode; start_base = d.start_base; frames = fs; rooted = d.rooted; labels = d.labels; ids = d.ids }) (change_bare g d.frames)

end_kind_lem : (k : Kind) (n : Bytes) (l : Language) (d : Doc) → Follows (end_kind k n l d) (end_kind k n l (in_base d))
unfolding end_kind add_xml
end_kind_lem rdf_rdf n l d = refl
end_kind_lem (wrapper b) n l d = follows_require _ _ ProfileBroken _ _ refl λ k. refl
end_kind_lem (node_element s li) n l d = ap (λ (x : Doc). good ([], x)) (changed (takes_node s) d)
end_kind_lem (property_element p v) n l d = end_value_lem p v l d
end_kind_lem xml_element n l d = ap (λ (x : Doc). good ([], x)) (changed (X.takes_xml (X.end_tag_xml n)) d)

without-bare : (fs : List Frame) (d : Doc) → with_frames (map bare fs) (in_base d) ≡ in_base (with_frames fs d)
unfolding with_frames in_base
without-bare fs d = refl

close_element_lem : (n : Bytes) (fs : List Frame) (d : Doc) → Follows (close_element n fs d) (close_element n (map bare fs) (in_base d))
unfolding close_element with_part
close_element_lem n [] d = tt
close_element_lem n (f ∷ fs) d =
    let e : with_frames (map bare fs) (in_base d) ≡ in_base (with_frames fs d) = without-bare fs d in
    rw (language-bare (f ∷ fs), e) (follows_require _ _ NotWellFormed _ _ refl λ k. end_kind_lem f.kind n (language_in_force (f ∷ fs)) (with_frames fs d))

-- ---- text

on_text_lem : (p : Place) (s : Bytes) (d : Doc) → Follows (on_text p s d) (on_text p s (in_base d))
unfolding on_text add_xml when◌then◌else◌
on_text_lem outside s d = follows_require _ _ StrayText _ _ refl λ k. refl
on_text_lem nodes s d = follows_require _ _ StrayText _ _ refl λ k. refl
on_text_lem (properties u li) s d = follows_require _ _ StrayText _ _ refl λ k. refl
on_text_lem nodes_or_text s d = go (is_blank s)
  where
    go : (b : Bool) → Follows (good ([], (when b then d else with_frames (change_value (takes_text s) d.frames) d))) (good ([], (when b then in_base d else with_frames (change_value (takes_text s) (in_base d).frames) (in_base d))))
    go true = refl
    go false = ap (λ (x : Doc). good ([], x)) (changed (takes_text s) d)
on_text_lem xml s d = ap (λ (x : Doc). good ([], x)) (changed (X.takes_xml (X.text_xml s)) d)

-- ---- one event

on_event_lem : (e : Event) (d : Doc) → Unwrapped e d → Follows (on_event e d) (on_event e (in_base d))
unfolding on_event
on_event_lem (opening n as') d w = on_opening_lem n as' d w
on_event_lem (closing n) d w = unfold in_base in close_element_lem n d.frames d
on_event_lem (text s) d w = let p : place_in (in_base d).frames ≡ place_in d.frames = unfold in_base in place_bare d.frames in rw p (on_text_lem (place_in d.frames) s d)
on_event_lem instruction d w = refl

within_limits : (a a₀ : Answer Step) → Follows a a₀ → Follows (a >>= within) (a₀ >>= within)
unfolding ◌>>=◌ within
within_limits (refuse n) a₀ h = tt
within_limits (good s) a₀ h = rw h (follows_require (fits s.1) (fits (in_base s.1)) OverLimit _ _ (fits-bare s.1) λ k. refl)

-- An event that is accepted, in whatever mode, and does not open the wrapper, is accepted by the base, with the same lines, and leads to the same
-- document.
pub event_as_base : (e : Event) (d d' : Doc) (us : List Triple) → Unwrapped e d → next e d ≡ good (us, d') → next e (in_base d) ≡ good (us, in_base d')
unfolding next
event_as_base e d d' us w q = subst (λ (a : Answer Step). Follows a (next e (in_base d))) q (within_limits (on_event e d) (on_event e (in_base d)) (on_event_lem e d w))

-- finish answers the same
pub finish_as_base : (d : Doc) → finish (in_base d) ≡ finish d
unfolding finish in_base
finish_as_base d = rw (empty-bare d.frames)

-- ---- packets

-- a root stays a root
rooted_kept : {d d' : Doc} {us : List Triple} → Change d us d' → d.rooted ≡ true → d'.rooted ≡ true
unfolding with_frames with_labels opened wrapped
rooted_kept stays h = h
rooted_kept (takes_text_lem v e) h = h
rooted_kept (takes_xml_lem x e) h = h
rooted_kept (copies m as' x e c) h = h
rooted_kept (opens m as' t o z c r g q s) h = refl
rooted_kept (wraps m as' z p e c) h = refl
rooted_kept (ends_root f fs is k) h = h
rooted_kept (ends_wrapper f fs b is k) h = h
rooted_kept (ends_node f fs s li is k) h = h
rooted_kept (ends_property f fs p v l ws n is k q) h = h
rooted_kept (ends_xml f fs x is k) h = h

still_rooted : (e : Event) (d d' : Doc) (us : List Triple) → next e d ≡ good (us, d') → d.rooted ≡ true → d'.rooted ≡ true
still_rooted e d d' us q h = always_holds (λ d. d.rooted ≡ true) (λ d d' us c f k. rooted_kept c k) h (event here e d' us q)

always_fact : {A : Type 0} (P : Type 0) (a : Answer A) → P → Always (λ s. P) a
always_fact P (refuse n) h = tt
always_fact P (good s) h = h

not_second : (n : Bytes) (as' : List Attribute) (d : Doc) → Always (λ s. is_second_root d ≡ false) (next (opening n as') d)
unfolding on_event on_opening
not_second n as' d =
    always_next (λ s. is_second_root d ≡ false) (opening n as') d
    (always_require (λ s. is_second_root d ≡ false) _ _ _ λ e. always_fact (is_second_root d ≡ false) ((require counts_fit as' d.frames or OverLimit) >> open_in (place_in d.frames) n as' d) (not-true (is_second_root d) (and_left (not (is_second_root d)) _ e)))

-- behind a root no wrapper opens
no_second_wrapper : (e : Event) (d d' : Doc) (us : List Triple) → next e d ≡ good (us, d') → d.rooted ≡ true → Unwrapped e d
unfolding is_second_root
no_second_wrapper (opening n as') d d' us q h = go (starts_wrapper d.mode.xmp n as' d.frames) refl
  where
    go : (b : Bool) → starts_wrapper d.mode.xmp n as' d.frames ≡ b → b ≡ false
    go false w = refl
    go true w =
        let u : Wrapping d.mode.xmp n as' d.frames = wrapping d.mode.xmp n as' d.frames w in
        let z : is_empty d.frames ≡ true = ap is_empty u.outermost ∙ (unfold is_empty in refl) in
        absurd (true≢false (sym (and_both d.rooted (is_empty d.frames) h z) ∙ always_good (λ s. is_second_root d ≡ false) (not_second n as' d) q))
no_second_wrapper (closing n) d d' us q h = tt
no_second_wrapper (text s) d d' us q h = tt
no_second_wrapper instruction d d' us q h = tt

-- before the root nothing has changed; from it on it is a packet
data Progress (b : Option Bytes) : Doc → List Triple → Type 0 where
  not_begun : Progress b (fresh xmp_mode b) []
  begun : {d : Doc} {ts : List Triple} → d.rooted ≡ true → Packet b d ts → Progress b d ts

module _ (b : Option Bytes) where
  -- nothing but blank text and instructions is accepted before the root
  abbrev Unchanged : Step → Type 0
  Unchanged s = s ≡ ([], fresh xmp_mode b)

  before_root : (e : Event) → ((n : Bytes) (as' : List Attribute) → e ≡ opening n as' → ⊥) → Always Unchanged (next e (fresh xmp_mode b))
  unfolding on_event on_text close_element fresh place_in
  before_root (opening n as') h = absurd (h n as' refl)
  before_root (closing n) h = always_next Unchanged (closing n) (fresh xmp_mode b) tt
  before_root (text s) h = always_next Unchanged (text s) (fresh xmp_mode b) (always_require Unchanged _ _ _ λ k. refl)
  before_root instruction h = always_next Unchanged instruction (fresh xmp_mode b) refl

  -- the wrapper opens, or another root
  abbrev Wraps : Bytes → List Attribute → Step → Type 0
  Wraps n as' s = s ≡ ([], wrapped n as' (fresh xmp_mode b))

  abbrev Roots : Step → Type 0
  Roots s = s.1.rooted ≡ true

  wrapper_opens : (n : Bytes) (as' : List Attribute) → starts_wrapper (fresh xmp_mode b).mode.xmp n as' (fresh xmp_mode b).frames ≡ true
      → Always (Wraps n as') (next (opening n as') (fresh xmp_mode b))
  unfolding on_event on_opening open_in open_wrapper when◌then◌else◌
  wrapper_opens n as' w =
      let d : Doc = fresh xmp_mode b in
      let p : place_in d.frames ≡ outside = unfold fresh place_in in refl in
      always_next (Wraps n as') (opening n as') d
      (always_require (Wraps n as') _ _ _ λ e₁. always_require (Wraps n as') _ _ _ λ e₂.
      rw (p, w) (always_after (Wraps n as') _ _ (always_after (Wraps n as') _ _ refl)))

  root_opens : (n : Bytes) (as' : List Attribute) → starts_wrapper (fresh xmp_mode b).mode.xmp n as' (fresh xmp_mode b).frames ≡ false
      → Always Roots (next (opening n as') (fresh xmp_mode b))
  unfolding on_event on_opening open_in open_element opened when◌then◌else◌
  root_opens n as' w =
      let d : Doc = fresh xmp_mode b in
      let p : place_in d.frames ≡ outside = unfold fresh place_in in refl in
      always_next Roots (opening n as') d
      (always_require Roots _ _ _ λ e₁. always_require Roots _ _ _ λ e₂.
      rw (p, w) (always_any Roots _ _ λ t. always_any Roots _ _ λ o. always_after Roots _ _ refl))

  from-base : in_base (fresh xmp_mode b) ≡ fresh base_mode b
  unfolding in_base fresh
  from-base = refl

  -- nothing changed
  same_progress : {d : Doc} {us : List Triple} → Unchanged (us, d) → Progress b d ([] ++ us)
  same_progress {d} {us} e = subst (λ (s : List Triple × Doc). Progress b s.1 s.0) (sym e) not_begun

  in_wrapper_lem : (n : Bytes) (as' : List Attribute) {d : Doc} {us : List Triple} → Wraps n as' (us, d) → Progress b d ([] ++ us)
  unfolding wrapped
  in_wrapper_lem n as' {d} {us} e = subst (λ (s : List Triple × Doc). Progress b s.1 s.0) (sym e) (begun refl (in_wrapper n as' here))

  first_event_lem : (e : Event) (d : Doc) (us : List Triple) → next e (fresh xmp_mode b) ≡ good (us, d) → Progress b d ([] ++ us)
  first_event_lem (closing n) d us q = same_progress (always_good Unchanged (before_root (closing n) λ m as' e. no_opening e) q)
    where
      no_opening : {m : Bytes} {as' : List Attribute} → closing n ≡ opening m as' → ⊥
      no_opening e = let z : ◌≡◌ {A = ℕ} 0 1 = cc in omega arith
  first_event_lem (text s) d us q = same_progress (always_good Unchanged (before_root (text s) λ m as' e. no_opening e) q)
    where
      no_opening : {m : Bytes} {as' : List Attribute} → text s ≡ opening m as' → ⊥
      no_opening e = let z : ◌≡◌ {A = ℕ} 0 1 = cc in omega arith
  first_event_lem instruction d us q = same_progress (always_good Unchanged (before_root instruction λ m as' e. no_opening e) q)
    where
      no_opening : {m : Bytes} {as' : List Attribute} → instruction ≡ opening m as' → ⊥
      no_opening e = let z : ◌≡◌ {A = ℕ} 0 1 = cc in omega arith
  first_event_lem (opening n as') d us q = go (starts_wrapper (fresh xmp_mode b).mode.xmp n as' (fresh xmp_mode b).frames) refl
    where
      go : (w : Bool) → starts_wrapper (fresh xmp_mode b).mode.xmp n as' (fresh xmp_mode b).frames ≡ w → Progress b d ([] ++ us)
      go true w = in_wrapper_lem n as' (always_good (Wraps n as') (wrapper_opens n as' w) q)
      go false w =
          begun (always_good Roots (root_opens n as' w) q)
          (unwrapped (event here (opening n as') (in_base d) us (rw from-base at (event_as_base (opening n as') (fresh xmp_mode b) d us w q))))

  later_event : (e : Event) {d : Doc} {ts : List Triple} (d' : Doc) (us : List Triple) → next e d ≡ good (us, d') → d.rooted ≡ true → Packet b d ts → Packet b d' (ts ++ us)
  later_event e {d} d' us q h (unwrapped a) = unwrapped (event a e (in_base d') us (event_as_base e d d' us (no_second_wrapper e d d' us q h) q))
  later_event e {d} d' us q h (in_wrapper n as' a) = in_wrapper n as' (event a e (in_base d') us (event_as_base e d d' us (no_second_wrapper e d d' us q h) q))

  next_event : (e : Event) {d : Doc} {ts : List Triple} (d' : Doc) (us : List Triple) → next e d ≡ good (us, d') → Progress b d ts → Progress b d' (ts ++ us)
  next_event e d' us q not_begun = first_event_lem e d' us q
  next_event e {d} d' us q (begun h p) = begun (still_rooted e d d' us q h) (later_event e d' us q h p)

  progress : {d : Doc} {ts : List Triple} → After (fresh xmp_mode b) d ts → Progress b d ts
  progress here = not_begun
  progress (event before e d' us q) = next_event e d' us q (progress before)

  is_packet : {d : Doc} {ts : List Triple} → Progress b d ts → Packet b d ts
  is_packet not_begun = unwrapped (subst (λ (x : Doc). After (fresh base_mode b) x []) (sym from-base) here)
  is_packet (begun h p) = p

-- A packet accepted in the profile gives, behind every event, exactly the lines that the base gives for the same events: from the same start base;
-- with a wrapper, from the same start base inside an element with the wrapper's bindings, for the events behind the wrapper's start tag.
pub packets : (b : Option Bytes) {d : Doc} {ts : List Triple} → After (fresh xmp_mode b) d ts → Packet b d ts
packets b a = is_packet b (progress b a)

-- The wrapper "takes no label": behind its start tag the base has generated none, as at a start, and then as many as the packet.
pub labels_as_base : (b : Option Bytes) (n : Bytes) (as' : List Attribute) (d : Doc) → ((in_base (wrapped n as' (fresh xmp_mode b))).labels ≡ 0) × ((in_base d).labels ≡ d.labels)
unfolding in_base wrapped fresh
labels_as_base b n as' d = (refl, refl)

-- So with the bytes, whatever pieces and room the steps of a document in the profile are given: what they wrote is those lines.
pub packets_written : (b : Option Bytes) (t : State) (w : Bytes) → Steps xmp_mode b t w → Holds (Packet b) t w
packets_written b (is_open d) w h = let k = written xmp_mode b (is_open d) w h in (k.0, packets b k.1, k.2)
packets_written b (is_closed d) w h = let k = written xmp_mode b (is_closed d) w h in (k.0, packets b k.1, k.2)
packets_written b unlawful w h = always_lawful xmp_mode b w h
