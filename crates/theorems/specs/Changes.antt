-- What an accepted event does to a document, by cases: whatever each of these changes keeps holds behind every accepted event.
use Rattle.std.specs.Prelude.{◌≡◌, refl, Bool, true, false, not, List, [], ◌∷◌, ℕ, ◌+◌, length}
use Rattle.std.proofs.Common.{sym, ◌∙◌, ap, subst}
use Rattle.std.proofs.Math.Option.{none}
use Rattle.std.proofs.lemmas.Bool.{not-true}
use Rattle.spec.specs.XmlLang.{Language, unsaid}
use Rattle.spec.specs.Bytes.{Bytes, when◌then◌else◌, All}
use Rattle.spec.specs.Numbers.{Answer, refuse, good}
use Rattle.spec.specs.Pyx.{Attribute, Event, opening, closing, text, instruction}
use Rattle.spec.specs.Namespaces.{declared}
use Rattle.spec.specs.NTriples.{Subject, Triple}
use Rattle.spec.specs.Document.{Value, default, collection, literal, other, Property, Kind, rdf_rdf, wrapper, node_element, property_element, xml_element, ordinary, Frame, Doc, with_frames, with_labels, with_kind, is_xml_element, on_value, Place, outside, nodes, nodes_or_text, xml, properties, place_in, change_value, fits}
use Rattle.spec.specs.StartTag.{Tag, read_tag, is_short}
use Rattle.spec.specs.Productions.{Opened, open_node, open_property, open_root}
use Rattle.spec.specs.XmlLiteral.{start_tag_xml, end_tag_xml, text_xml, takes_xml, add_xml}
use Rattle.spec.specs.Xmp.{open_wrapper, wrapped, keeps}
use Rattle.spec.specs.Opening.{Step, is_second_root, counts_fit, opened}
use Rattle.spec.specs.Opening as G
use Rattle.spec.specs.EndTag.{takes_node, end_value}
use Rattle.spec.specs.EndTag as C
use Rattle.spec.specs.RdfXml.{takes_text, next}
use Rattle.spec.specs.RdfXml as X
use Rattle.spec.specs.Lists.{After, here, event}
use Rattle.spec.proofs.Booleans.{and_left}
use Rattle.theorems.specs.Always.{Always, always_bind, always_after, always_require, always_if, always_self}
use Rattle.theorems.specs.Rules.{rules_kept, Wrapping, wrapping}

-- the production for a start tag outside Literal content, by what it stands in
abbrev pub Produces : Place → Tag → ℕ → Opened → Type 0
Produces outside t n o = open_root t n ≡ good o
Produces nodes t n o = open_node t n ≡ good o
Produces nodes_or_text t n o = open_node t n ≡ good o
Produces (properties s li) t n o = open_property t s li n ≡ good o
Produces xml t n o = ⊥

-- an element in Literal content
abbrev pub copy : Bytes → List Attribute → Frame
copy n as' = record { name = n; bindings = declared as'; own_base = none; own_tag = unsaid; kind = xml_element; part = ordinary }

-- the lines of an accepted event, and the document behind it
pub data Change (d : Doc) : List Triple → Doc → Type 0 where
  -- an instruction, or blank text
  stays : Change d [] d
  -- text in a default property
  takes_text_lem : (v : Bytes) → place_in d.frames ≡ nodes_or_text → Change d [] (with_frames (change_value (takes_text v) d.frames) d)
  -- text in Literal content
  takes_xml_lem : (x : Bytes) → place_in d.frames ≡ xml → Change d [] (with_frames (change_value (takes_xml x) d.frames) d)
  -- a start tag in Literal content
  copies : (n : Bytes) (as' : List Attribute) (x : Bytes) → place_in d.frames ≡ xml → counts_fit as' d.frames ≡ true
      → Change d [] (with_frames (copy n as' ∷ change_value (takes_xml x) d.frames) d)
  -- a start tag outside Literal content
  opens : (n : Bytes) (as' : List Attribute) (t : Tag) (o : Opened) → is_second_root d ≡ false → counts_fit as' d.frames ≡ true → read_tag n as' d ≡ good t
      → keeps d.mode.xmp d.frames t ≡ true → Produces (place_in d.frames) t d.labels o → is_short t ≡ true → Change d (opened t d o).0 (opened t d o).1
  -- the wrapper's start tag
  wraps : (n : Bytes) (as' : List Attribute) → is_second_root d ≡ false → d.mode.xmp ≡ true → d.frames ≡ [] → counts_fit as' d.frames ≡ true
      → Change d [] (wrapped n as' d)
  -- end tags
  ends_root : (f : Frame) (fs : List Frame) → d.frames ≡ f ∷ fs → f.kind ≡ rdf_rdf → Change d [] (with_frames fs d)
  ends_wrapper : (f : Frame) (fs : List Frame) (b : Bool) → d.frames ≡ f ∷ fs → f.kind ≡ wrapper b → Change d [] (with_frames fs d)
  ends_node : (f : Frame) (fs : List Frame) (s : Subject) (li : ℕ) → d.frames ≡ f ∷ fs → f.kind ≡ node_element s li
      → Change d [] (with_frames (change_value (takes_node s) fs) d)
  ends_property : (f : Frame) (fs : List Frame) (p : Property) (v : Value) (l : Language) (us : List Triple) (n : ℕ)
      → d.frames ≡ f ∷ fs → f.kind ≡ property_element p v → end_value p v l (with_frames fs d) ≡ good (us, with_labels n (with_frames fs d))
      → Change d us (with_labels n (with_frames fs d))
  ends_xml : (f : Frame) (fs : List Frame) (x : Bytes) → d.frames ≡ f ∷ fs → f.kind ≡ xml_element
      → Change d [] (with_frames (change_value (takes_xml x) fs) d)

-- what is kept by a change of value is kept of every open element
pub all_changed : (P : Frame → Type 0) (g : Value → Value) → ((f : Frame) → P f → P (with_kind (on_value g f.kind) f)) → (fs : List Frame) → All P fs → All P (change_value g fs)
unfolding change_value when◌then◌else◌
all_changed P g keep [] h = tt
all_changed P g keep (f ∷ fs) h = go (is_xml_element f.kind) (all_changed P g keep fs h.1)
  where
    go : (b : Bool) → All P (change_value g fs) → All P (when b then f ∷ change_value g fs else with_kind (on_value g f.kind) f ∷ fs)
    go true k = (h.0, k)
    go false k = (keep f h.0, h.1)

-- and of all but the one that closes
pub all_but : (P : Frame → Type 0) (f : Frame) (fs gs : List Frame) → gs ≡ f ∷ fs → All P gs → All P fs
all_but P f fs gs is h = let k : All P (f ∷ fs) = rw is at h in k.1

abbrev Changes : Doc → Step → Type 0
Changes d s = Change d s.0 s.1

-- ---- start tags

open_element_lem : (production : Tag → ℕ → Answer Opened) (n : Bytes) (as' : List Attribute) (d : Doc) → is_second_root d ≡ false → counts_fit as' d.frames ≡ true
    → ((t : Tag) (o : Opened) → production t d.labels ≡ good o → Produces (place_in d.frames) t d.labels o) → Always (Changes d) (G.open_element production n as' d)
unfolding G.open_element
open_element_lem production n as' d z c k =
    always_bind (λ t. read_tag n as' d ≡ good t) (Changes d) _ _ (always_self (read_tag n as' d)) λ t r.
    always_bind (λ o. (production t d.labels ≡ good o) × (keeps d.mode.xmp d.frames t ≡ true)) (Changes d) _ _ (rules_kept d.mode d.frames t (production t d.labels)) λ o q.
    always_require (Changes d) _ _ _ λ s. opens n as' t o z c r q.1 (k t o q.0) s

open_in_lem : (p : Place) (n : Bytes) (as' : List Attribute) (d : Doc) → place_in d.frames ≡ p → is_second_root d ≡ false → counts_fit as' d.frames ≡ true → Always (Changes d) (G.open_in p n as' d)
unfolding G.open_in G.copy_element open_wrapper with_frames add_xml
open_in_lem outside n as' d e z c =
    always_if (Changes d) _ _ _ (λ w. always_after (Changes d) _ _ (always_after (Changes d) _ _ (let u : Wrapping d.mode.xmp n as' d.frames = wrapping d.mode.xmp n as' d.frames w in wraps n as' z u.xmp u.outermost c)))
    λ w. open_element_lem open_root n as' d z c λ t o q. rw e q
open_in_lem nodes n as' d e z c = open_element_lem open_node n as' d z c λ t o q. rw e q
open_in_lem nodes_or_text n as' d e z c = open_element_lem open_node n as' d z c λ t o q. rw e q
open_in_lem (properties s li) n as' d e z c = open_element_lem (λ t. open_property t s li) n as' d z c λ t o q. rw e q
open_in_lem xml n as' d e z c = always_require (Changes d) _ _ _ λ k. always_after (Changes d) _ _ (copies n as' (start_tag_xml n as') e c)

on_opening_lem : (n : Bytes) (as' : List Attribute) (d : Doc) → Always (Changes d) (G.on_opening n as' d)
unfolding G.on_opening
on_opening_lem n as' d = always_require (Changes d) _ _ _ λ a. always_require (Changes d) _ _ _ λ c. open_in_lem (place_in d.frames) n as' d refl (not-true (is_second_root d) (and_left (not (is_second_root d)) _ a)) c

-- ---- end tags

-- the end of a property changes nothing but the number of labels
only_labels : (p : Property) (v : Value) (l : Language) (fs : List Frame) (d : Doc)
    → Always (λ s. (n : ℕ) × (s.1 ≡ with_labels n (with_frames fs d))) (end_value p v l (with_frames fs d))
unfolding end_value with_frames with_labels
only_labels p (default t o) l fs d = (d.labels, refl)
only_labels p (collection cs) l fs d = always_require _ _ _ _ λ e. (d.labels + length cs, refl)
only_labels p (literal x) l fs d = always_require _ _ _ _ λ e. (d.labels, refl)
only_labels p other l fs d = (d.labels, refl)

module _ (d : Doc) (f : Frame) (fs : List Frame) (is : d.frames ≡ f ∷ fs) where
  end_property : (p : Property) (v : Value) (l : Language) → f.kind ≡ property_element p v → Always (Changes d) (end_value p v l (with_frames fs d))
  end_property p v l k = go (end_value p v l (with_frames fs d)) refl (only_labels p v l fs d)
    where
      go : (a : Answer Step) → end_value p v l (with_frames fs d) ≡ a → Always (λ s. (n : ℕ) × (s.1 ≡ with_labels n (with_frames fs d))) a → Always (Changes d) a
      go (refuse r) e h = tt
      go (good (us, d')) e (n, q) = subst (λ (x : Doc). Change d us x) (sym q) (ends_property f fs p v l us n is k (e ∙ ap (λ (x : Doc). good (us, x)) q))

  end_kind_lem : (k : Kind) (n : Bytes) (l : Language) → f.kind ≡ k → Always (Changes d) (C.end_kind k n l (with_frames fs d))
  unfolding C.end_kind add_xml with_frames
  end_kind_lem rdf_rdf n l k = ends_root f fs is k
  end_kind_lem (wrapper b) n l k = always_after (Changes d) _ _ (ends_wrapper f fs b is k)
  end_kind_lem (node_element s li) n l k = ends_node f fs s li is k
  end_kind_lem (property_element p v) n l k = end_property p v l k
  end_kind_lem xml_element n l k = ends_xml f fs (end_tag_xml n) is k

close_element_lem : (n : Bytes) (fs : List Frame) (d : Doc) → d.frames ≡ fs → Always (Changes d) (C.close_element n fs d)
unfolding C.close_element
close_element_lem n [] d e = tt
close_element_lem n (f ∷ fs) d e = always_require (Changes d) _ _ _ λ s. end_kind_lem d f fs e f.kind n _ refl

-- ---- text

on_text_lem : (p : Place) (v : Bytes) (d : Doc) → place_in d.frames ≡ p → Always (Changes d) (X.on_text p v d)
unfolding X.on_text add_xml when◌then◌else◌
on_text_lem outside v d e = always_require (Changes d) _ _ _ λ b. stays
on_text_lem nodes v d e = always_require (Changes d) _ _ _ λ b. stays
on_text_lem (properties s li) v d e = always_require (Changes d) _ _ _ λ b. stays
on_text_lem nodes_or_text v d e = go (X.is_blank v)
  where
    go : (b : Bool) → Changes d ([], (when b then d else with_frames (change_value (takes_text v) d.frames) d))
    go true = stays
    go false = takes_text_lem v e
on_text_lem xml v d e = takes_xml_lem (text_xml v) e

on_event_lem : (e : Event) (d : Doc) → Always (Changes d) (X.on_event e d)
unfolding X.on_event
on_event_lem (opening n as') d = on_opening_lem n as' d
on_event_lem (closing n) d = close_element_lem n d.frames d refl
on_event_lem (text v) d = on_text_lem (place_in d.frames) v d refl
on_event_lem instruction d = stays

-- ---- accepted events

-- one of the changes, and the document behind it fits
abbrev pub Accepts : Doc → Step → Type 0
Accepts d s = Change d s.0 s.1 × (fits s.1 ≡ true)

accepts : (e : Event) (d : Doc) → Always (Accepts d) (next e d)
unfolding next X.within
accepts e d = always_bind (Changes d) (Accepts d) _ _ (on_event_lem e d) λ s c. always_require (Accepts d) _ _ _ λ f. (c, f)

-- Whatever holds of a document at its start, and is kept by each change that fits, holds behind every accepted event.
pub always_holds : (P : Doc → Type 0) → ((d d' : Doc) (us : List Triple) → Change d us d' → fits d' ≡ true → P d → P d')
    → {d₀ d : Doc} {ts : List Triple} → P d₀ → After d₀ d ts → P d
always_holds P keep h here = h
always_holds P keep h (event {d = d} before e d' us q) =
    let a : Accepts d (us, d') = subst (λ (x : Answer Step). Always (Accepts d) x) q (accepts e d) in
    keep d d' us a.0 a.1 (always_holds P keep h before)
