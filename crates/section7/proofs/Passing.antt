-- 7 and 18 are given only where a limit is passed.
use Rattle.std.specs.Prelude.{◌≡◌, Bool, true, false, ℕ, ◌+◌, leb, ltb}
use Rattle.std.proofs.Math.Path.{refl}
use Rattle.std.proofs.Common.{sym, ◌∙◌}
use Rattle.std.proofs.Math.Bool.{not}
use Rattle.std.proofs.lemmas.Bool.{false≢true}
use Rattle.std.proofs.Math.Option.{Option, none, some}
use mathlib.Core.List.{List, [], ◌∷◌, ◌++◌}
use Rattle.std.proofs.Math.ListN.{length}
use Rattle.spec.specs.Bytes.{Bytes, when◌then◌else◌, is_empty, ◌>>=◌, ◌>>◌, require◌or◌, each}
use Rattle.spec.specs.Numbers.{Answer, refuse, good}
use Rattle.spec.specs.declared.Refusal.{Refusal}
use Rattle.spec.specs.declared.Refusal.TheVariants.{NotWellFormed, OverLimit, NoNamespace, NotNcName, BadLanguage, BadIri, RepeatedId, BadLabel, Reserved, TwoNames, StrayText, EmptyLiteral, LabelsSpent, ProfileBroken}
use Rattle.spec.specs.Limits.{most_labels}
use Rattle.spec.specs.XmlNames.{is_nc_name}
use Rattle.spec.specs.Pyx.{Attribute, attribute, Event, opening, closing, text, instruction}
use Rattle.spec.specs.Namespaces.{Binding, in_namespace, expand_element, is_declaration, expand_attribute, known_attribute}
use Rattle.spec.specs.Document.{Value, default, collection, literal, other, Property, Kind, rdf_rdf, wrapper, node_element, property_element, xml_element, Frame, Doc, with_frames, language_in_force, Place, outside, nodes, nodes_or_text, xml, properties, place_in, fits}
use Rattle.spec.specs.XmlLang.{Language}
use Rattle.spec.specs.StartTag.{Role, nothing, xml_lang, xml_base, rdf_ID, rdf_bag_id, rdf_node_id, rdf_about, rdf_resource, rdf_datatype, rdf_parse_type, rdf_type, forbidden, property, role_of, judge, known, means, meaning, resolved, Tag, read_tag, is_short}
use Rattle.spec.specs.Productions.{Opened, one_more, open_node, object_of, open_with_node, open_default, open_resource, open_with, no_parse_type, as_collection, as_resource, as_literal, as_other, ParseType, open_as, open_property, open_root}
use Rattle.spec.specs.NTriples.{Subject}
use Rattle.spec.specs.Opening.{Step, counts_fit, mode_rules, under_rules, copy_element, open_element, open_in, on_opening}
use Rattle.spec.specs.EndTag.{end_value, end_kind, close_element}
use Rattle.spec.specs.RdfXml.{on_text, on_event, within, next}
use Rattle.theorems.specs.Rules.{Unwrapped}
use Rattle.section7.specs.Reading.{limit, Passes, counts, names, kept, labels, lis, cells}

-- ---- an answer that is refused with a limit's number only for this reason

abbrev For : {A : Type 0} → (Refusal → Type 0) → Answer A → Type 0
For P (refuse n) = limit n ≡ true → P n
For P (good a) = Unit {0}

for_bind : {A B : Type 0} (P : Refusal → Type 0) (m : Answer A) (f : A → Answer B) → For P m → ((a : A) → m ≡ good a → For P (f a)) → For P (m >>= f)
unfolding ◌>>=◌
for_bind P (refuse n) f h k = h
for_bind P (good a) f h k = k a refl

for_then : {A B : Type 0} (P : Refusal → Type 0) (m : Answer A) (k : Answer B) → For P m → For P k → For P (m >> k)
unfolding ◌>>◌
for_then P (refuse n) k h g = h
for_then P (good a) k h g = g

-- a test with another number, and with a limit's
for_other : (P : Refusal → Type 0) (b : Bool) (n : Refusal) → limit n ≡ false → For P (require b or n)
unfolding require◌or◌
for_other P true n h = tt
for_other P false n h = λ l. absurd (false≢true (sym h ∙ l))

for_limit : (P : Refusal → Type 0) (b : Bool) (n : Refusal) → (b ≡ false → P n) → For P (require b or n)
unfolding require◌or◌
for_limit P true n h = tt
for_limit P false n h = λ l. h refl

for_if : {A : Type 0} (P : Refusal → Type 0) (b : Bool) (m k : Answer A) → For P m → For P k → For P (when b then m else k)
unfolding when◌then◌else◌
for_if P true m k h g = h
for_if P false m k h g = g

for_each : {A B : Type 0} (P : Refusal → Type 0) (f : A → Answer B) → ((a : A) → For P (f a)) → (l : List A) → For P (each f l)
unfolding each
for_each P f h [] = tt
for_each P f h (a ∷ l) = for_bind P (f a) _ (h a) λ b q. for_bind P (each f l) _ (for_each P f h l) λ bs r. tt

-- ---- a start tag

module _ (P : Refusal → Type 0) where
  for_namespace : (o : Option Bytes) (l : Bytes) → For P (in_namespace o l)
  unfolding in_namespace
  for_namespace none l = λ h. absurd (false≢true h)
  for_namespace (some ns) l = for_then P (require not (is_empty ns) or NoNamespace) (good (ns ++ l)) (for_other P _ NoNamespace refl) tt

  for_judge : (r : Role) (v : Bytes) → For P (judge r v)
  unfolding judge
  for_judge nothing v = tt
  for_judge xml_lang v = for_other P _ BadLanguage refl
  for_judge xml_base v = for_other P _ BadIri refl
  for_judge rdf_ID v = for_other P _ NotNcName refl
  for_judge rdf_bag_id v = for_other P _ NotNcName refl
  for_judge rdf_node_id v = for_then P (require is_nc_name v or NotNcName) _ (for_other P _ NotNcName refl) (for_other P _ BadLabel refl)
  for_judge rdf_about v = tt
  for_judge rdf_resource v = tt
  for_judge rdf_datatype v = tt
  for_judge rdf_parse_type v = tt
  for_judge rdf_type v = tt
  for_judge forbidden v = λ h. absurd (false≢true h)
  for_judge property v = tt

  for_known : (n : Bytes) (o : Option Bytes) → For P (known n o)
  unfolding known
  for_known n none = λ h. absurd (false≢true h)
  for_known n (some i) = for_then P _ (good i) (for_other P _ NoNamespace refl) tt

  for_meaning : (bs : List Binding) (a : Attribute) → For P (meaning bs a)
  unfolding meaning
  for_meaning bs (attribute n v) =
      for_if P (is_declaration (attribute n v)) _ _ tt
      (for_bind P (known n (expand_attribute bs n)) _ (for_known n (expand_attribute bs n)) λ i q. for_then P (judge (role_of n i) v) (good (means (role_of n i) i v)) (for_judge (role_of n i) v) tt)

  for_resolved : (b r : Option Bytes) → For P (resolved b r)
  unfolding resolved
  for_resolved b none = tt
  for_resolved none (some r) = for_then P _ (good (some r)) (for_other P _ BadIri refl) tt
  for_resolved (some b) (some r) = for_then P _ _ (for_other P _ BadIri refl) tt

  for_tag : (n : Bytes) (as' : List Attribute) (d : Doc) → For P (read_tag n as' d)
  unfolding read_tag expand_element
  for_tag n as' d =
      for_bind P _ _ (for_namespace _ _) λ i q₀.
      for_bind P _ _ (for_each P _ (for_meaning _) as') λ ms q₁.
      for_bind P _ _ (for_resolved _ _) λ id q₂.
      for_then P _ _ (for_other P _ RepeatedId refl)
      (for_bind P _ _ (for_resolved _ _) λ about q₃.
      for_bind P _ _ (for_resolved _ _) λ resource q₄.
      for_bind P _ _ (for_resolved _ _) λ datatype q₅.
      for_bind P _ _ (for_resolved _ _) λ type q₆. tt)

-- ---- productions, with n labels generated

module _ (P : Refusal → Type 0) (n : ℕ) (spent : ltb n most_labels ≡ false → P LabelsSpent) where
  for_one : For P (one_more n)
  unfolding one_more
  for_one = for_limit P (ltb n most_labels) LabelsSpent spent

  for_node : (t : Tag) → For P (open_node t n)
  unfolding open_node
  for_node t = for_then P _ _ (for_other P _ Reserved refl) (for_then P _ _ (for_other P _ TwoNames refl) (for_then P _ _ for_one tt))

  for_root : (t : Tag) → For P (open_root t n)
  unfolding open_root
  for_root t = for_if P _ _ _ tt (for_node t)

  for_object : (r l : Option Bytes) → For P (object_of r l n)
  unfolding object_of
  for_object (some r) l = tt
  for_object none (some l) = tt
  for_object none none = for_then P _ _ for_one tt

  for_default : (t : Tag) (p : Property) → For P (open_default t p n)
  unfolding open_default open_with_node
  for_default t p = for_if P _ _ _ (for_bind P (object_of t.resource t.node_id n) _ (for_object t.resource t.node_id) λ o q. tt) tt

  for_as : (k : ParseType) (t : Tag) (p : Property) → For P (open_as k t p n)
  unfolding open_as open_resource open_with
  for_as no_parse_type t p = for_default t p
  for_as as_collection t p = tt
  for_as as_resource t p = for_then P _ _ for_one tt
  for_as as_literal t p = tt
  for_as as_other t p = tt

  for_property : (t : Tag) (s : Subject) (li : ℕ) → (ltb li most_labels ≡ false → P LabelsSpent) → For P (open_property t s li n)
  unfolding open_property one_more
  for_property t s li h =
      for_then P _ _ (for_other P _ Reserved refl)
      (for_then P _ _ (for_other P _ TwoNames refl)
      (for_then P _ _ (for_if P _ _ _ (for_limit P (ltb li most_labels) LabelsSpent h) tt) (for_as _ t _)))

-- the rules of a mode have no limit
for_rules : (P : Refusal → Type 0) (r : Answer (Unit {0})) (a : Answer Opened) → For P r → For P a → For P (under_rules r a)
unfolding under_rules
for_rules P (good x) a h k = k
for_rules P (refuse r) (refuse q) h k = for_if P _ _ _ k h
for_rules P (refuse r) (good o) h k = h

-- ---- events

module _ (n : Bytes) (as' : List Attribute) (d : Doc) where
  abbrev Why : Refusal → Type 0
  Why = Passes (opening n as') d

  for_element : (production : Tag → ℕ → Answer Opened) → ((t : Tag) → For Why (production t d.labels)) → For Why (open_element production n as' d)
  unfolding open_element mode_rules
  for_element production h =
      for_bind Why (read_tag n as' d) _ (for_tag Why n as' d) λ t q.
      for_bind Why _ _ (for_rules Why _ (production t d.labels) (for_other Why _ ProfileBroken refl) (h t)) λ o r.
      for_then Why _ _ (for_limit Why (is_short t) OverLimit λ l. names refl q l) tt

  for_copy : For Why (copy_element n as' d)
  unfolding copy_element known_attribute
  for_copy = for_then Why _ _ (for_other Why _ NoNamespace refl) (for_then Why _ _ (for_each Why _ (λ a. for_other Why _ NoNamespace refl) as') tt)

  for_place : (p : Place) → Unwrapped (opening n as') d → place_in d.frames ≡ p → For Why (open_in p n as' d)
  unfolding open_in when◌then◌else◌
  for_place outside w e = rw w (for_element open_root (for_root Why d.labels labels))
  for_place nodes w e = for_element open_node (for_node Why d.labels labels)
  for_place nodes_or_text w e = for_element open_node (for_node Why d.labels labels)
  for_place (properties s li) w e = for_element (λ t. open_property t s li) (λ t. for_property Why d.labels labels t s li (lis e))
  for_place xml w e = for_copy

  for_opening : Unwrapped (opening n as') d → For Why (on_opening n as' d)
  unfolding on_opening
  for_opening w = for_then Why _ _ (for_other Why _ NotWellFormed refl) (for_then Why _ _ (for_limit Why (counts_fit as' d.frames) OverLimit (counts refl)) (for_place (place_in d.frames) w refl))

module _ (n : Bytes) (d : Doc) where
  abbrev WhyEnd : Refusal → Type 0
  WhyEnd = Passes (closing n) d

  for_value : (f : Frame) (fs : List Frame) (p : Property) (v : Value) (l : Language) → d.frames ≡ f ∷ fs → f.kind ≡ property_element p v → For WhyEnd (end_value p v l (with_frames fs d))
  unfolding end_value with_frames
  for_value f fs p (default t o) l e k = tt
  for_value f fs p (collection cs) l e k = for_then WhyEnd _ _ (for_limit WhyEnd (leb (d.labels + length cs) most_labels) LabelsSpent λ h. cells e k h) tt
  for_value f fs p (literal x) l e k = for_then WhyEnd _ _ (for_other WhyEnd _ EmptyLiteral refl) tt
  for_value f fs p other l e k = tt

  for_kind : (f : Frame) (fs : List Frame) (k : Kind) (l : Language) → d.frames ≡ f ∷ fs → f.kind ≡ k → For WhyEnd (end_kind k n l (with_frames fs d))
  unfolding end_kind
  for_kind f fs rdf_rdf l e q = tt
  for_kind f fs (wrapper b) l e q = for_then WhyEnd _ _ (for_other WhyEnd _ ProfileBroken refl) tt
  for_kind f fs (node_element s li) l e q = tt
  for_kind f fs (property_element p v) l e q = for_value f fs p v l e q
  for_kind f fs xml_element l e q = tt

  for_closing : (fs : List Frame) → d.frames ≡ fs → For WhyEnd (close_element n fs d)
  unfolding close_element
  for_closing [] e = λ h. absurd (false≢true h)
  for_closing (f ∷ fs) e = for_then WhyEnd _ _ (for_other WhyEnd _ NotWellFormed refl) (for_kind f fs f.kind (language_in_force (f ∷ fs)) e refl)

for_text : (P : Refusal → Type 0) (p : Place) (s : Bytes) (d : Doc) → For P (on_text p s d)
unfolding on_text
for_text P outside s d = for_then P _ _ (for_other P _ StrayText refl) tt
for_text P nodes s d = for_then P _ _ (for_other P _ StrayText refl) tt
for_text P (properties u li) s d = for_then P _ _ (for_other P _ StrayText refl) tt
for_text P nodes_or_text s d = tt
for_text P xml s d = tt

for_event : (e : Event) (d : Doc) → Unwrapped e d → For (Passes e d) (on_event e d)
unfolding on_event
for_event (opening n as') d w = for_opening n as' d w
for_event (closing n) d w = for_closing n d d.frames refl
for_event (text s) d w = for_text (Passes (text s) d) (place_in d.frames) s d
for_event instruction d w = tt

for_next : (e : Event) (d : Doc) → Unwrapped e d → For (Passes e d) (next e d)
unfolding next within
for_next e d w = for_bind (Passes e d) (on_event e d) within (for_event e d w) λ s q. for_then (Passes e d) _ _ (for_limit (Passes e d) (fits s.1) OverLimit (kept q)) tt

-- an event that is refused by 7 or 18 passes a limit
pub limit-passed : (e : Event) (d : Doc) (n : Refusal) → Unwrapped e d → next e d ≡ refuse n → limit n ≡ true → Passes e d n
limit-passed e d n w q = let h : For {A = Step} (Passes e d) (refuse n) = rw q at (for_next e d w) in h
