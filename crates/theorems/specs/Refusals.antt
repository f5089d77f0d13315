-- What an event itself is refused for: 6 by its first test only, else 7 to 19. It closes the document; so answers 1 to 4 are given
-- exactly when document 01's table says.
use Rattle.std.specs.Prelude.{◌≡◌, Bool, ◌&&◌, not, ◌⊎◌, ℕ, ◌≤◌, ◌<◌, eqb, leb, length}
use Rattle.std.proofs.Math.Path.{refl, ap}
use Rattle.std.proofs.Common.{sym, ◌∙◌, subst, true≢false, inl, inr, arith, leb-false}
use Rattle.std.proofs.Math.Bool.{true, false}
use Rattle.std.proofs.Math.Option.{Option, none, some}
use mathlib.Core.List.{List, [], ◌∷◌}
use Rattle.std.proofs.lemmas.Bool.{lt-leb}
use Rattle.spec.specs.XmlLang.{Language}
use Rattle.spec.specs.Bytes.{Bytes, byte, same, member, when◌then◌else◌, each, ◌>>=◌, ◌>>◌, require◌or◌}
use Rattle.spec.specs.Numbers.{number, closes, Answer, refuse, good}
use Rattle.spec.specs.declared.Refusal.{Refusal}
use Rattle.spec.specs.declared.Refusal.TheVariants.{Incomplete, NoRoom, BadState, Closed, NotPyx, NotWellFormed, OverLimit, NoNamespace, NotNcName, BadLanguage, BadIri, RepeatedId, BadLabel, Reserved, TwoNames, StrayText, EmptyLiteral, LabelsSpent, ProfileBroken}
use Rattle.spec.specs.Pyx.{Attribute, attribute, Event, opening, closing, text, instruction, read_event}
use Rattle.spec.specs.Pyx as P
use Rattle.spec.specs.Namespaces.{Binding}
use Rattle.spec.specs.Namespaces as N
use Rattle.spec.specs.NTriples.{Subject, Triple, write}
use Rattle.spec.specs.declared.Mode.{Mode}
use Rattle.spec.specs.Modes.{base_mode}
use Rattle.spec.specs.Document.{Value, default, collection, literal, other, Property, Kind, rdf_rdf, wrapper, node_element, property_element, xml_element, Frame, Doc, Place, outside, nodes, nodes_or_text, xml, properties, place_in}
use Rattle.spec.specs.StartTag.{Role, nothing, xml_lang, xml_base, rdf_ID, rdf_bag_id, rdf_node_id, rdf_about, rdf_resource, rdf_datatype, rdf_parse_type, rdf_type, forbidden, property, Tag, read_tag}
use Rattle.spec.specs.StartTag as S
use Rattle.spec.specs.Productions.{Opened, open_node, open_property, open_root, ParseType, no_parse_type, as_collection, as_resource, as_literal, as_other}
use Rattle.spec.specs.Productions as O
use Rattle.spec.specs.Xmp.{open_wrapper, keeps}
use Rattle.spec.specs.Opening as G
use Rattle.spec.specs.EndTag as C
use Rattle.spec.specs.Inside.{innermost}
use Rattle.spec.specs.Nesting.{Stands, Nested}
use Rattle.spec.specs.RdfXml.{next}
use Rattle.spec.specs.RdfXml as X
use Rattle.spec.specs.PyxCut.{Cut, wait, unended, too_long, whole, cut}
use Rattle.spec.specs.Calls.{State, Report, is_open, is_closed, unlawful, Accepted, accept, first_event, stepped, call_step, refused, refused_in}
use Rattle.theorems.specs.PyxCut.{cut_waits}
use Rattle.theorems.specs.Calls.{step_room, number_injective, number_positive}

-- ---- the refusals that an answer may give

-- what holds of the refusal, if the answer is one
abbrev pub Given : {A : Type 0} → (Refusal → Type 0) → Answer A → Type 0
Given Q (refuse r) = Q r
Given Q (good a) = Unit {0}

module _ (Q : Refusal → Type 0) where
  on_bind : {A B : Type 0} (m : Answer A) (f : A → Answer B) → Given Q m → ((a : A) → Given Q (f a)) → Given Q (m >>= f)
  unfolding ◌>>=◌
  on_bind (refuse r) f h k = h
  on_bind (good a) f h k = k a

  on_then : {A B : Type 0} (m : Answer A) (k : Answer B) → Given Q m → Given Q k → Given Q (m >> k)
  unfolding ◌>>◌
  on_then (refuse r) k h g = h
  on_then (good a) k h g = g

  on_test : (b : Bool) (r : Refusal) → Q r → Given Q (require b or r)
  unfolding require◌or◌
  on_test true r h = tt
  on_test false r h = h

  on_if : {A : Type 0} (b : Bool) (m k : Answer A) → Given Q m → Given Q k → Given Q (when b then m else k)
  unfolding when◌then◌else◌
  on_if true m k h g = h
  on_if false m k h g = g

  -- a test that is looked at where it fails
  on_failing_test : (b : Bool) (r : Refusal) → (b ≡ false → Q r) → Given Q (require b or r)
  unfolding require◌or◌
  on_failing_test true r h = tt
  on_failing_test false r h = h refl

  on_require : {A : Type 0} (b : Bool) (r : Refusal) (m : Answer A) → Q r → Given Q m → Given Q ((require b or r) >> m)
  on_require b r m h k = on_then (require b or r) m (on_test b r h) k

  on_failing : {A : Type 0} (b : Bool) (r : Refusal) (m : Answer A) → (b ≡ false → Q r) → Given Q m
      → Given Q ((require b or r) >> m)
  on_failing b r m h k = on_then (require b or r) m (on_failing_test b r h) k

  on_each : {A B : Type 0} (f : A → Answer B) (l : List A) → ((a : A) → Given Q (f a)) → Given Q (each f l)
  unfolding each
  on_each f [] h = tt
  on_each f (a ∷ l) h = on_bind _ _ (h a) λ b. on_bind _ _ (on_each f l h) λ bs. tt

-- a refusal that closes
abbrev Closes : Refusal → Type 0
Closes r = closes r ≡ true

abbrev pub Closing : {A : Type 0} → Answer A → Type 0
Closing m = Given Closes m

-- ---- lines

module _ (Q : Refusal → Type 0) (five : Q NotPyx) where
  escaped : (c : ℕ) → Given Q (P.escaped c)
  unfolding P.escaped
  escaped c = on_if Q _ _ _ tt (on_if Q _ _ _ tt (on_if Q _ _ _ tt five))

  unescape : (s : Bytes) → Given Q (P.unescape s)
  unfolding P.unescape
  unescape [] = tt
  unescape (c ∷ []) = on_if Q _ _ _ five tt
  unescape (c ∷ d ∷ s) = go (eqb c (byte "\\")) (unescape s) (unescape (d ∷ s))
    where
      go : (b : Bool) → Given Q (P.unescape s) → Given Q (P.unescape (d ∷ s))
          → Given {A = Bytes} Q (elim b [ true ↦ P.escaped d >>= λ e. P.unescape s >>= λ t. good (e ∷ t) | false ↦ P.unescape (d ∷ s) >>= λ t. good (c ∷ t) ])
      go true h k = on_bind Q _ _ (escaped d) λ e. on_bind Q _ _ h λ t. tt
      go false h k = on_bind Q _ _ k λ t. tt

  name : (s : Bytes) → Given Q (P.name s)
  unfolding P.name
  name s = on_require Q _ _ _ five tt

  attribute_line : (l : Bytes) → Given Q (P.read_attribute l)
  unfolding P.read_attribute
  attribute_line l = on_bind Q _ _ (name _) λ n. on_require Q _ _ _ five (on_bind Q _ _ (unescape _) λ v. tt)

  event_lines : (ls : List Bytes) → Given Q (P.read_lines ls)
  unfolding P.read_lines P.read_opening P.read_closing P.read_text
  event_lines [] = five
  event_lines (l ∷ ls) =
      on_if Q _ _ _ (on_bind Q _ _ (name _) λ n. on_bind Q _ _ (on_each Q P.read_attribute ls attribute_line) λ as'. tt)
      (on_if Q _ _ _ (on_bind Q _ _ (name _) λ n. tt)
      (on_if Q _ _ _ (on_bind Q _ _ (on_each Q _ (l ∷ ls) λ x. unescape _) λ ts. tt) (on_if Q _ _ _ tt five)))

  -- the bytes of an event are refused by 5 alone
  pub event_given : (s : Bytes) → Given Q (read_event s)
  unfolding read_event
  event_given s = on_require Q _ _ _ five (event_lines _)

pub event_closing : (s : Bytes) → Closing (read_event s)
event_closing s = event_given Closes refl s

-- ---- 6, and what comes behind it

-- an end tag and the innermost open element, by the name as written
unfoldable pub matches : Bytes → List Frame → Bool
matches n [] = false
matches n (f ∷ fs) = same n f.name

-- an event's first test: no end tag without match, no second root, no illegal xmlns, no repeated attribute
abbrev pub well_formed : Event → Doc → Bool
well_formed (opening n as') d =
    not (G.is_second_root d) && (N.all_legal (N.declared as') && not (G.repeated (place_in d.frames) as' d))
well_formed (closing n) d = matches n d.frames
well_formed (text s) d = true
well_formed instruction d = true

-- what 12 needs: an rdf:ID of an accepted event
abbrev pub HasIds : Doc → Type 0
HasIds d = d.ids ≡ [] → ⊥

-- what 17 needs: the innermost open element is a property with parseType Literal
abbrev pub InLiteral : Doc → Type 0
InLiteral d = (p : Property) × (x : Bytes) × (innermost d.frames ≡ some (property_element p (literal x)))

-- what 19 needs: another mode than the base
abbrev pub HasRules : Doc → Type 0
HasRules d = d.mode ≡ base_mode → Nested d.mode d.frames → ⊥

-- what holds of 7 to 19, by which an event is refused behind that test
pub record Behind (Q : Refusal → Type 0) (d : Doc) : Type 0 where
  pub seven : Q OverLimit
  pub eight : Q NoNamespace
  pub nine : Q NotNcName
  pub ten : Q BadLanguage
  pub eleven : Q BadIri
  pub twelve : HasIds d → Q RepeatedId
  pub thirteen : Q BadLabel
  pub fourteen : Q Reserved
  pub fifteen : Q TwoNames
  pub sixteen : Q StrayText
  pub seventeen : InLiteral d → Q EmptyLiteral
  pub eighteen : Q LabelsSpent
  pub nineteen : HasRules d → Q ProfileBroken

-- without an rdf:ID entered all are unused
used_ids : (i : Option Bytes) (ids : List Bytes) → S.is_unused i ids ≡ false → ids ≡ [] → ⊥
unfolding S.is_unused member
used_ids none ids h e = true≢false h
used_ids (some i) ids h e = true≢false (subst (λ (x : List Bytes). not (member i x) ≡ false) e h)

-- the base has no rules to break, and no wrapper
rules_in : (m : Mode) (fs : List Frame) (t : Tag) → keeps m.xmp fs t ≡ false → m ≡ base_mode → ⊥
unfolding keeps
rules_in m fs t h e = true≢false (subst (λ (x : Mode). keeps x.xmp fs t ≡ false) e h)

wrapper_in : (m : Mode) (f : Frame) (fs gs : List Frame) (b : Bool) → gs ≡ f ∷ fs → f.kind ≡ wrapper b → m ≡ base_mode → Nested m gs → ⊥
wrapper_in m f fs gs b is k e n =
    let h : Nested base_mode (f ∷ fs) = subst (λ (x : Mode). Nested x (f ∷ fs)) e (subst (Nested m) is n) in
    subst (λ (x : Kind). Stands base_mode x (place_in fs)) k h.0

module _ (Q : Refusal → Type 0) (d : Doc) (j : Behind Q d) where
  -- ---- start tags

  in_namespace_lem : (o : Option Bytes) (l : Bytes) → Given Q (N.in_namespace o l)
  unfolding N.in_namespace
  in_namespace_lem none l = j.eight
  in_namespace_lem (some ns) l = on_require Q _ _ _ j.eight tt

  expand : (bs : List Binding) (n : Bytes) → Given Q (N.expand_element bs n)
  unfolding N.expand_element
  expand bs n = in_namespace_lem _ _

  known : (n : Bytes) (o : Option Bytes) → Given Q (S.known n o)
  unfolding S.known
  known n none = j.eight
  known n (some i) = on_require Q _ _ _ j.eight tt

  judge : (r : Role) (v : Bytes) → Given Q (S.judge r v)
  unfolding S.judge
  judge nothing v = tt
  judge xml_lang v = on_test Q _ _ j.ten
  judge xml_base v = on_test Q _ _ j.eleven
  judge rdf_ID v = on_test Q _ _ j.nine
  judge rdf_bag_id v = on_test Q _ _ j.nine
  judge rdf_node_id v = on_require Q _ _ _ j.nine (on_test Q _ _ j.thirteen)
  judge rdf_about v = tt
  judge rdf_resource v = tt
  judge rdf_datatype v = tt
  judge rdf_parse_type v = tt
  judge rdf_type v = tt
  judge forbidden v = j.fourteen
  judge property v = tt

  meaning : (bs : List Binding) (a : Attribute) → Given Q (S.meaning bs a)
  unfolding S.meaning
  meaning bs (attribute n v) = on_if Q _ _ _ tt (on_bind Q _ _ (known n _) λ i. on_then Q _ _ (judge _ v) tt)

  resolved : (b r : Option Bytes) → Given Q (S.resolved b r)
  unfolding S.resolved
  resolved b none = tt
  resolved none (some r) = on_require Q _ _ _ j.eleven tt
  resolved (some b) (some r) = on_require Q _ _ _ j.eleven tt

  read_tag_lem : (n : Bytes) (as' : List Attribute) → Given Q (read_tag n as' d)
  unfolding read_tag
  read_tag_lem n as' =
      on_bind Q _ _ (expand _ n) λ i.
      on_bind Q _ _ (on_each Q _ as' (meaning _)) λ ms.
      on_bind Q _ _ (resolved _ _) λ id'.
      on_failing Q _ _ _ (λ h. j.twelve (used_ids id' d.ids h))
      (on_bind Q _ _ (resolved _ _) λ about'.
      on_bind Q _ _ (resolved _ _) λ resource'.
      on_bind Q _ _ (resolved _ _) λ datatype'.
      on_bind Q _ _ (resolved _ _) λ type'. tt)

  open_node_lem : (t : Tag) (n : ℕ) → Given Q (open_node t n)
  unfolding open_node O.one_more
  open_node_lem t n = on_require Q _ _ _ j.fourteen (on_require Q _ _ _ j.fifteen (on_require Q _ _ _ j.eighteen tt))

  object_of_lem : (r l : Option Bytes) (n : ℕ) → Given Q (O.object_of r l n)
  unfolding O.object_of O.one_more
  object_of_lem (some r) l n = tt
  object_of_lem none (some l) n = tt
  object_of_lem none none n = on_require Q _ _ _ j.eighteen tt

  open_as_lem : (a : ParseType) (t : Tag) (p : Property) (n : ℕ) → Given Q (O.open_as a t p n)
  unfolding O.open_as O.open_default O.open_with_node O.open_resource O.open_with O.one_more
  open_as_lem no_parse_type t p n = on_if Q _ _ _ (on_bind Q _ _ (object_of_lem _ _ n) λ o. tt) tt
  open_as_lem as_collection t p n = tt
  open_as_lem as_resource t p n = on_require Q _ _ _ j.eighteen tt
  open_as_lem as_literal t p n = tt
  open_as_lem as_other t p n = tt

  open_property_lem : (t : Tag) (s : Subject) (li n : ℕ) → Given Q (open_property t s li n)
  unfolding open_property O.one_more
  open_property_lem t s li n =
      on_require Q _ _ _ j.fourteen
      (on_require Q _ _ _ j.fifteen (on_then Q _ _ (on_if Q _ _ _ (on_test Q _ _ j.eighteen) tt) (open_as_lem _ t _ n)))

  open_root_lem : (t : Tag) (n : ℕ) → Given Q (open_root t n)
  unfolding open_root
  open_root_lem t n = on_if Q _ _ _ tt (open_node_lem t n)

  on_rules : (r : Answer (Unit {0})) (a : Answer Opened) → Given Q r → Given Q a → Given Q (G.under_rules r a)
  unfolding G.under_rules
  on_rules (good u) a h k = k
  on_rules (refuse r) (refuse q) h k = on_if Q _ _ _ k h
  on_rules (refuse r) (good o) h k = h

  mode_rules_lem : (t : Tag) → Given Q (G.mode_rules d.mode d.frames t)
  unfolding G.mode_rules
  mode_rules_lem t = on_failing_test Q _ _ λ h. j.nineteen λ e n. rules_in d.mode d.frames t h e

  open_element_lem : (production : Tag → ℕ → Answer Opened) (m : Bytes) (as' : List Attribute) → ((t : Tag) (n : ℕ) → Given Q (production t n)) → Given Q (G.open_element production m as' d)
  unfolding G.open_element
  open_element_lem production m as' h =
      on_bind Q _ _ (read_tag_lem m as') λ t. on_bind Q _ _ (on_rules _ _ (mode_rules_lem t) (h t d.labels)) λ o. on_require Q _ _ _ j.seven tt

  known_attributes : (bs : List Binding) (as' : List Attribute) → Given Q (each (N.known_attribute bs) as')
  unfolding N.known_attribute
  known_attributes bs as' = on_each Q _ as' λ a. on_test Q _ _ j.eight

  copy_element_lem : (m : Bytes) (as' : List Attribute) → Given Q (G.copy_element m as' d)
  unfolding G.copy_element
  copy_element_lem m as' = on_require Q _ _ _ j.eight (on_then Q _ _ (known_attributes _ as') tt)

  open_wrapper_lem : (m : Bytes) (as' : List Attribute) → Given Q (open_wrapper m as' d)
  unfolding open_wrapper
  open_wrapper_lem m as' = on_then Q _ _ (known_attributes _ as') (on_require Q _ _ _ j.seven tt)

  open_in_lem : (p : Place) (m : Bytes) (as' : List Attribute) → Given Q (G.open_in p m as' d)
  unfolding G.open_in
  open_in_lem outside m as' = on_if Q _ _ _ (open_wrapper_lem m as') (open_element_lem open_root m as' open_root_lem)
  open_in_lem nodes m as' = open_element_lem open_node m as' open_node_lem
  open_in_lem nodes_or_text m as' = open_element_lem open_node m as' open_node_lem
  open_in_lem (properties s li) m as' = open_element_lem (λ t. open_property t s li) m as' λ t. open_property_lem t s li
  open_in_lem xml m as' = copy_element_lem m as'

  on_opening_lem : (m : Bytes) (as' : List Attribute) → (well_formed (opening m as') d ≡ false → Q NotWellFormed) → Given Q (G.on_opening m as' d)
  unfolding G.on_opening
  on_opening_lem m as' six = on_failing Q _ _ _ six (on_require Q _ _ _ j.seven (open_in_lem _ m as'))

  -- ---- end tags and text

  end_value_lem : (p : Property) (v : Value) (l : Language) (d' : Doc) → ((x : Bytes) → v ≡ literal x → Q EmptyLiteral)
      → Given Q (C.end_value p v l d')
  unfolding C.end_value
  end_value_lem p (default t o) l d' h = tt
  end_value_lem p (collection cs) l d' h = on_require Q _ _ _ j.eighteen tt
  end_value_lem p (literal x) l d' h = on_require Q _ _ _ (h x refl) tt
  end_value_lem p other l d' h = tt

  end_kind_lem : (k : Kind) (m : Bytes) (l : Language) (d' : Doc) → ((p : Property) (x : Bytes) → k ≡ property_element p (literal x) → Q EmptyLiteral)
      → ((b : Bool) → k ≡ wrapper b → Q ProfileBroken) → Given Q (C.end_kind k m l d')
  unfolding C.end_kind
  end_kind_lem rdf_rdf m l d' h g = tt
  end_kind_lem (wrapper b) m l d' h g = on_require Q _ _ _ (g b refl) tt
  end_kind_lem (node_element s li) m l d' h g = tt
  end_kind_lem (property_element p v) m l d' h g = end_value_lem p v l d' λ x e. h p x (ap (property_element p) e)
  end_kind_lem xml_element m l d' h g = tt

  close_element_lem : (m : Bytes) (fs : List Frame) → d.frames ≡ fs → (matches m fs ≡ false → Q NotWellFormed) → Given Q (C.close_element m fs d)
  unfolding C.close_element matches innermost
  close_element_lem m [] is six = six refl
  close_element_lem m (f ∷ fs) is six =
      on_failing Q _ _ _ six
      (end_kind_lem f.kind m _ _ (λ p x k. j.seventeen (p, x, ap innermost is ∙ ap some k)) λ b k. j.nineteen (wrapper_in d.mode f fs d.frames b is k))

  on_text_lem : (p : Place) (v : Bytes) → Given Q (X.on_text p v d)
  unfolding X.on_text
  on_text_lem outside v = on_require Q _ _ _ j.sixteen tt
  on_text_lem nodes v = on_require Q _ _ _ j.sixteen tt
  on_text_lem (properties s li) v = on_require Q _ _ _ j.sixteen tt
  on_text_lem nodes_or_text v = tt
  on_text_lem xml v = tt

  on_event_lem : (e : Event) → (well_formed e d ≡ false → Q NotWellFormed) → Given Q (X.on_event e d)
  unfolding X.on_event
  on_event_lem (opening m as') six = on_opening_lem m as' six
  on_event_lem (closing m) six = close_element_lem m d.frames refl six
  on_event_lem (text v) six = on_text_lem (place_in d.frames) v
  on_event_lem instruction six = tt

  -- an event itself is refused by 7 to 19, or by 6 where that test fails
  pub next_given : (e : Event) → (well_formed e d ≡ false → Q NotWellFormed) → Given Q (next e d)
  unfolding next X.within
  next_given e six = on_bind Q _ _ (on_event_lem e six) λ s. on_require Q _ _ _ j.seven tt

-- whatever an event itself is refused for closes the document
pub next_closing : (e : Event) (d : Doc) → Closing (next e d)
next_closing e d = next_given Closes d all-close e λ h. refl
  where
    all-close : Behind Closes d
    all-close = record {
      seven = refl;
      eight = refl;
      nine = refl;
      ten = refl;
      eleven = refl;
      twelve = λ h. refl;
      thirteen = refl;
      fourteen = refl;
      fifteen = refl;
      sixteen = refl;
      seventeen = λ h. refl;
      eighteen = refl;
      nineteen = λ h. refl;
    }

-- 12, 17 and 19 only where the document has what they need
abbrev pub Needs : Doc → Refusal → Type 0
Needs d Incomplete = Unit {0}
Needs d NoRoom = Unit {0}
Needs d BadState = Unit {0}
Needs d Closed = Unit {0}
Needs d NotPyx = Unit {0}
Needs d NotWellFormed = Unit {0}
Needs d OverLimit = Unit {0}
Needs d NoNamespace = Unit {0}
Needs d NotNcName = Unit {0}
Needs d BadLanguage = Unit {0}
Needs d BadIri = Unit {0}
Needs d RepeatedId = HasIds d
Needs d BadLabel = Unit {0}
Needs d Reserved = Unit {0}
Needs d TwoNames = Unit {0}
Needs d StrayText = Unit {0}
Needs d EmptyLiteral = InLiteral d
Needs d LabelsSpent = Unit {0}
Needs d ProfileBroken = HasRules d

pub refused_needs : (e : Event) (d : Doc) (r : Refusal) → next e d ≡ refuse r → Needs d r
refused_needs e d r h = subst (λ (a : Answer (List Triple × Doc)). Given (Needs d) a) h (next_given (Needs d) d needs e λ k. tt)
  where
    needs : Behind (Needs d) d
    needs = record {
      seven = tt;
      eight = tt;
      nine = tt;
      ten = tt;
      eleven = tt;
      twelve = λ k. k;
      thirteen = tt;
      fourteen = tt;
      fifteen = tt;
      sixteen = tt;
      seventeen = λ k. k;
      eighteen = tt;
      nineteen = λ k. k;
    }

-- by 1 to 5 never, and by 6 only where it is not well-formed
abbrev AboveSix : Event → Doc → Refusal → Type 0
AboveSix e d r = (leb (number r) 6 ≡ false) ⊎ ((r ≡ NotWellFormed) × (well_formed e d ≡ false))

next_above : (e : Event) (d : Doc) → Given (AboveSix e d) (next e d)
next_above e d = next_given (AboveSix e d) d above e λ h. inr (refl, h)
  where
    above : Behind (AboveSix e d) d
    above = record {
      seven = inl refl;
      eight = inl refl;
      nine = inl refl;
      ten = inl refl;
      eleven = inl refl;
      twelve = λ h. inl refl;
      thirteen = inl refl;
      fourteen = inl refl;
      fifteen = inl refl;
      sixteen = inl refl;
      seventeen = λ h. inl refl;
      eighteen = inl refl;
      nineteen = λ h. inl refl;
    }

pub refused-above : (e : Event) (d : Doc) (r : Refusal) → next e d ≡ refuse r → AboveSix e d r
refused-above e d r h = subst (λ (a : Answer (List Triple × Doc)). Given (AboveSix e d) a) h (next_above e d)

-- and by 6 always there
pub not_well_formed : (e : Event) (d : Doc) → well_formed e d ≡ false → next e d ≡ refuse NotWellFormed
unfolding next X.on_event G.on_opening C.close_element matches ◌>>=◌ ◌>>◌ require◌or◌
not_well_formed (opening n as') d h = rw h
not_well_formed (closing n) d h = go d.frames h
  where
    go : (fs : List Frame) → matches n fs ≡ false → (C.close_element n fs d >>= X.within) ≡ refuse NotWellFormed
    go [] h = refl
    go (f ∷ fs) h = rw h
not_well_formed (text s) d h = absurd (true≢false h)
not_well_formed instruction d h = absurd (true≢false h)

-- ---- the answers 1 to 4, which do not close

-- a refusal that closes has not the number of one that does not
not_this : (x r : Refusal) → closes x ≡ false → number r ≡ number x → closes r ≡ true → ⊥
not_this x r h e k = true≢false (sym k ∙ (ap closes (number_injective r x e) ∙ h))

-- an event that would be accepted, but for the room
abbrev pub LacksRoom : Bytes → ℕ → Doc → Type 0
LacksRoom bytes room d = (e : Event) × (us : List Triple) × (d' : Doc) × (read_event bytes ≡ good e) × (next e d ≡ good (us, d')) × (room < length (write us))

-- an event is refused by one that closes, or for the room
abbrev Judged : Bytes → ℕ → Doc → Answer Accepted → Type 0
Judged bytes room d (refuse r) = (closes r ≡ true) ⊎ ((r ≡ NoRoom) × LacksRoom bytes room d)
Judged bytes room d (good a) = Unit {0}

judged : (bytes : Bytes) (room : ℕ) (d : Doc) → Judged bytes room d (accept bytes room d)
unfolding accept ◌>>=◌ ◌>>◌ require◌or◌
judged bytes room d = on_read (read_event bytes) refl (event_closing bytes)
  where
    on_room : (e : Event) (s : List Triple × Doc) → read_event bytes ≡ good e → next e d ≡ good s → (b : Bool) → leb (length (write s.0)) room ≡ b
        → Judged bytes room d ((require b or NoRoom) >> good (record { size = length bytes; lines = write s.0; behind = s.1 }))
    on_room e s p q true h = tt
    on_room e s p q false h = inr (refl, (e, s.0, s.1, p, q, leb-false (length (write s.0)) room h))

    on-next : (e : Event) (a : Answer (List Triple × Doc)) → read_event bytes ≡ good e → next e d ≡ a → Closing a
        → Judged bytes room d (a >>= λ s. (require leb (length (write s.0)) room or NoRoom) >> good (record { size = length bytes; lines = write s.0; behind = s.1 }))
    on-next e (refuse r) p q h = inl h
    on-next e (good s) p q h = on_room e s p q (leb (length (write s.0)) room) refl

    on_read : (a : Answer Event) → read_event bytes ≡ a → Closing a
        → Judged bytes room d (a >>= λ e. next e d >>= λ s. (require leb (length (write s.0)) room or NoRoom) >> good (record { size = length bytes; lines = write s.0; behind = s.1 }))
    on_read (refuse r) p h = inl h
    on_read (good e) p h = on-next e (next e d) p refl (next_closing e d)

-- a state against the rules (3); a document closed by finish or a refusal (4); no complete event yet (1); lines that exceed the room (2)
pub data Why (last : Bool) (rest : Bytes) (room : ℕ) : State → Refusal → Type 0 where
  no_state : Why last rest room unlawful BadState
  was_closed : (d : Doc) → Why last rest room (is_closed d) Closed
  no_event : (d : Doc) → cut last rest ≡ wait → Why last rest room (is_open d) Incomplete
  no_room : (d : Doc) (bytes : Bytes) → cut last rest ≡ whole bytes → LacksRoom bytes room d → Why last rest room (is_open d) NoRoom

-- 1 to 4 are given only then
pub given-only_when : (last : Bool) (rest : Bytes) (room : ℕ) (q : State) (x : Refusal) → closes x ≡ false → (call_step last rest room q).answer ≡ number x → Why last rest room q x
unfolding call_step stepped first_event refused_in refused ◌>>=◌
given-only_when last rest room unlawful x c h = subst (λ (y : Refusal). Why last rest room unlawful y) (number_injective BadState x h) no_state
given-only_when last rest room (is_closed d) x c h = subst (λ (y : Refusal). Why last rest room (is_closed d) y) (number_injective Closed x h) (was_closed d)
given-only_when last rest room (is_open d) x c h = go (cut last rest) refl h
  where
    lacks : (b : Bytes) (r : Refusal) → cut last rest ≡ whole b → number r ≡ number x → (closes r ≡ true) ⊎ ((r ≡ NoRoom) × LacksRoom b room d) → Why last rest room (is_open d) x
    lacks b r e h (inl k) = absurd (not_this x r c h k)
    lacks b r e h (inr k) = subst (λ (y : Refusal). Why last rest room (is_open d) y) (sym k.0 ∙ number_injective r x h) (no_room d b e k.1)

    on-accept : (b : Bytes) (a : Answer Accepted) → cut last rest ≡ whole b → Judged b room d a → (stepped d a).answer ≡ number x → Why last rest room (is_open d) x
    on-accept b (refuse r) e j h = lacks b r e h j
    on-accept b (good a) e j h = absurd (number_positive x (sym h))

    go : (k : Cut) → cut last rest ≡ k → (stepped d (first_event k >>= λ bytes. accept bytes room d)).answer ≡ number x → Why last rest room (is_open d) x
    go wait e h = subst (λ (y : Refusal). Why last rest room (is_open d) y) (number_injective Incomplete x h) (no_event d e)
    go unended e h = absurd (not_this x NotPyx c h refl)
    go too_long e h = absurd (not_this x OverLimit c h refl)
    go (whole b) e h = on-accept b (accept b room d) e (judged b room d) h

-- and always then
pub given_when : (last : Bool) (rest : Bytes) (room : ℕ) (q : State) (x : Refusal) → Why last rest room q x → call_step last rest room q ≡ refused_in q x
unfolding call_step stepped first_event accept ◌>>=◌ ◌>>◌ require◌or◌
given_when last rest room q x no_state = refl
given_when last rest room q x (was_closed d) = refl
given_when last rest room q x (no_event d e) = simp e
given_when last rest room q x (no_room d b e (event, us, d', p, n, lt)) = simp (e, p, n, lt-leb (length (write us)) room lt)

-- with "no more", 1 is given only for an empty rest
pub only-empty : (rest : Bytes) (room : ℕ) (q : State) → (call_step true rest room q).answer ≡ 1 → rest ≡ []
only-empty rest room q h = go q (given-only_when true rest room q Incomplete refl h)
  where
    go : (q : State) → Why true rest room q Incomplete → rest ≡ []
    go q (no_event d e) = cut_waits rest e

-- more room than enough changes nothing
pub more_room : (last : Bool) (rest : Bytes) (room room' : ℕ) (q : State) → room ≤ room' → ((call_step last rest room q).answer ≡ 2 → ⊥) → call_step last rest room' q ≡ call_step last rest room q
unfolding refused_in refused
more_room last rest room room' q le h = step_room last rest room' room q (λ z. go q (given-only_when last rest room' q NoRoom refl z) h) h
  where
    go : (q : State) → Why last rest room' q NoRoom → ((call_step last rest room q).answer ≡ 2 → ⊥) → ⊥
    go q (no_room d b e (event, us, d', p, n, lt)) h =
        h (ap (λ (r : Report). r.answer) (given_when last rest room q NoRoom (no_room d b e (event, us, d', p, n, omega (arith, le, lt)))))

-- ---- the answers from 8 on

-- an event of an open document is refused by this number
abbrev pub EventRefused : State → Refusal → Type 0
EventRefused (is_open d) x = (e : Event) × (next e d ≡ refuse x)
EventRefused (is_closed d) x = ⊥
EventRefused unlawful x = ⊥

-- an event that is accepted, if its lines fit
abbrev in_room : Bytes → Bool → List Triple × Doc → Answer Accepted
in_room b f s = (require f or NoRoom) >> good (record { size = length b; lines = write s.0; behind = s.1 })

-- a step gives them only for an event itself
pub step-refused : (last : Bool) (rest : Bytes) (room : ℕ) (q : State) (x : Refusal) → 8 ≤ number x → (call_step last rest room q).answer ≡ number x
    → EventRefused q x
unfolding call_step stepped first_event accept refused_in refused ◌>>=◌ ◌>>◌ require◌or◌
step-refused last rest room unlawful x le h = omega (arith, le, h)
step-refused last rest room (is_closed d) x le h = omega (arith, le, h)
step-refused last rest room (is_open d) x le h = on-cut (cut last rest) h
  where
    on_room : (b : Bytes) (s : List Triple × Doc) (f : Bool) → (stepped d (in_room b f s)).answer ≡ number x → ⊥
    on_room b s true h = omega (arith, le, h)
    on_room b s false h = omega (arith, le, h)

    on-next : (b : Bytes) (e : Event) (a : Answer (List Triple × Doc)) → next e d ≡ a → (stepped d (a >>= λ s. in_room b (leb (length (write s.0)) room) s)).answer ≡ number x → EventRefused (is_open d) x
    on-next b e (refuse r) q h = (e, q ∙ ap refuse (number_injective r x h))
    on-next b e (good s) q h = absurd (on_room b s (leb (length (write s.0)) room) h)

    on_read : (b : Bytes) (a : Answer Event) → Given (λ r. r ≡ NotPyx) a → (stepped d (a >>= λ e. next e d >>= λ s. in_room b (leb (length (write s.0)) room) s)).answer ≡ number x → EventRefused (is_open d) x
    on_read b (refuse r) k h = absurd (let z : number NotPyx ≡ number x = sym (ap number k) ∙ h in omega (arith, le, z))
    on_read b (good e) k h = on-next b e (next e d) refl h

    on-cut : (c : Cut) → (stepped d (first_event c >>= λ bytes. accept bytes room d)).answer ≡ number x → EventRefused (is_open d) x
    on-cut wait h = absurd (omega (arith, le, h))
    on-cut unended h = absurd (omega (arith, le, h))
    on-cut too_long h = absurd (omega (arith, le, h))
    on-cut (whole b) h = on_read b (read_event b) (event_given (λ r. r ≡ NotPyx) refl b) h
