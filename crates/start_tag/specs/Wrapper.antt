-- The wrapper of a packet: is a start tag its, and what comes of its start tag.
use Prim.Native.Nat.{ℕ, zero, suc, ◌+◌, ◌-◌, ◌<◌, ◌≤◌}
use Rattle.std.specs.Prelude.{◌≡◌, Bool, ◌&&◌, ◌||◌, not, eqb, leb, length}
use Rattle.std.proofs.Math.Path.{refl, sym, ap}
use Rattle.std.proofs.Common.{◌∙◌, arith}
use Rattle.std.proofs.Math.Bool.{true, false}
use Rattle.std.proofs.lemmas.Bool.{false≢true}
use Rattle.std.proofs.Math.Option.{none, some}
use mathlib.Core.List.{List, [], ◌∷◌, ◌++◌}
use Rattle.std.proofs.Math.ListN.{take}
use borrow.Author.Tests.{eq-eqb, ne_eqb, lt-leb, leb-true}
use Rattle.spec.specs.Bytes.{Bytes, total, same, is_empty, is_some, every, each, ◌>>=◌, ◌>>◌, require◌or◌}
use Rattle.spec.specs.Numbers.{Answer, refuse, good}
use Rattle.spec.specs.declared.Refusal.{Refusal}
use Rattle.spec.specs.declared.Refusal.TheVariants.{NoNamespace, OverLimit}
use Rattle.spec.specs.Limits as L
use Rattle.spec.specs.Limits.{most_held_bytes}
use Rattle.spec.specs.declared.Mode.{Mode}
use Rattle.spec.specs.XmlNames.{prefix_of}
use Rattle.spec.specs.Pyx as P
use Rattle.spec.specs.Pyx.{Attribute, attribute}
use Rattle.spec.specs.Namespaces.{Binding, name_of, xml_name, is_declaration, declared, namespace, expand_element, is_known, known_attribute}
use Rattle.spec.specs.NTriples.{Subject}
use Rattle.spec.specs.Document.{wrapper, ordinary, Frame as Element, Doc, in_scope, binding_bytes, held_bytes}
use Rattle.spec.specs.Rdf as F
use Rattle.spec.specs.Productions.{is_li}
use Rattle.spec.specs.Xmp.{wrapper_name, names_wrapper, starts_wrapper, wrapped, open_wrapper}
use Rattle.spec.specs.Opening.{Step, count_li, enter, on_opening}
use Rattle.spec.specs.RdfXml.{on_event}
use Rattle.copy.specs.Copy.{part}
use Rattle.spec.specs.XmlLang.{unsaid}
use Rattle.state.specs.Language.{tag_of_own}
use Rattle.state.specs.declared.Registers.{Registers}
use Rattle.state_ids.specs.Ids.{ids_of, length_ids, total_ids}
use Rattle.state.specs.Meaning.{subject_below, start_of, elements_of, doc_of}
use Rattle.state.specs.Valid.{stands, Valid}
use Rattle.state_stack.specs.Calls.{top_frame}
use Rattle.state_stack.specs.Change.{flat}
use Rattle.event.specs.Result.{IdsFit, fits-held, handled, handled_by, refused_on, over_limit}
use Rattle.event.specs.Progress.{lent, Lawful}
use Rattle.state.specs.Held as H
use Rattle.state.specs.Live.{in_scope_lem}
use Rattle.start_names.specs.declared.Found.{Found}
use Rattle.start_names.specs.declared.Found.TheVariants as found
use Rattle.start_names.specs.declared.Class.{Class}
use Rattle.start_names.specs.declared.Class.TheVariants.{Declaration, Unknown, Unprefixed, Xml, Own, Held}
use Rattle.start_names.specs.Tag.{name_at, value_at, attribute_at, attributes_from, attributes_of, Split, Splits, front_of, back_of}
use Rattle.start_names.specs.Found.{found_bytes, answered, scope, Names, element_means}
use Rattle.start_names.specs.Classes.{found_class, space_by, kind_of, class_at, Says, Classified}
use Rattle.start_attributes.specs.Places.{places}
use Rattle.start_attributes.specs.Short.{short_at, short_means}
use Rattle.start_element.specs.declared.Source.TheVariants.{Missing}
use Rattle.start_element.specs.Element.{text_of, maybe, new_element}
use Rattle.start_element.specs.Sizes.{parts_bytes, Measures, measured}
use Rattle.start_element.specs.Laws.{ready_valid, held_with_lem, CountedBy}
use Rattle.start_plan.specs.declared.Start.{Start}
use Rattle.start_plan.specs.Plan.{wrapper_plan}
use Rattle.start_plan.specs.Does.{wrapper_element, wrapper_element_lem, wrapper-fitting}
use Rattle.start_plan.specs.Goes.{told, lines_by, behind_by, Goes}
use Rattle.start_form.specs.Order.{opens_wrapper}
use Rattle.start_form.specs.Form.{Formed}
use Rattle.start_tag.specs.Made.{is_unknown, unknown_space}
use Rattle.start_tag.specs.Limits.{left_over}
use Rattle.start_tag.specs.Packets.{and-false}
use Rattle.start_tag.specs.Judges.{Rules}
use Rattle.std.specs.Prelude.{Result, Ok, Err}

-- ---- is it the wrapper's?

-- a valid state in this mode and at this depth, outside Literal content; the namespace of the tag that comes is f
pub record Comes (mode : Mode) (depth : ℕ) (f : Found) (name : Bytes) (c : ℕ) (e w : List ℕ)
    (r : Registers) (fs bs is v : List ℕ) (m k : ℕ) : Type 0 where
  pub valid : Valid r fs bs is w
  pub level : r.counts.inner ≡ 0
  pub deep : r.counts.depth ≡ depth
  pub chosen : r.mode ≡ mode
  pub named : name ≡ part e 0 m
  pub colon : Split c (take m e)
  pub space : Names e w (namespace (scope e v k w bs r.counts.bindings) (front_of c name)) f
  pub known : is_unknown f ≡ false

-- what `is_wrapper` tells
pub record TellsWrapper (b : Bool) (mode : Mode) (depth : ℕ) (f : Found) (name : Bytes) (c : ℕ) (e w : List ℕ) : Type 0 where
  pub answer : (r : Registers) (fs bs is v : List ℕ) (m k : ℕ) (ids : List Bytes)
      → Comes mode depth f name c e w r fs bs is v m k
      → b ≡ starts_wrapper mode.xmp (take m e) (attributes_of e v k) (doc_of r fs bs is w ids).frames

-- the namespace that was found is the class's
found-space : (e w : List ℕ) (f : Found) → is_unknown f ≡ false → found_bytes e w f ≡ some (space_by e w xml_name (found_class f))
unfolding found_bytes
found-space e w found.Unknown h = absurd (false≢true (sym h))
found-space e w found.Xml h = refl
found-space e w (found.Own at n) h = refl
found-space e w (found.Held at n) h = refl

no_elements : (es : List Element) → is_empty es ≡ eqb (length es) 0
unfolding is_empty
no_elements [] = refl
no_elements (x ∷ es) = sym (ne_eqb (suc (length es)) 0 (λ z. omega arith))

module _ {mode : Mode} {depth : ℕ} {f : Found} {name : Bytes} {c : ℕ} {e w : List ℕ} {r : Registers} {fs bs is v : List ℕ} {m k : ℕ}
    (x : Comes mode depth f name c e w r fs bs is v m k) where
  -- its expanded name
  expanded : expand_element (declared (attributes_of e v k) ++ in_scope (elements_of r fs bs is w)) (take m e)
      ≡ good (space_by e w xml_name (found_class f) ++ back_of c name)
  unfolding scope answered part
  expanded =
      let bound : declared (attributes_of e v k) ++ in_scope (elements_of r fs bs is w) ≡ scope e v k w bs r.counts.bindings =
      ap (declared (attributes_of e v k) ++◌) (in_scope_lem x.valid) in
      let z : Names e w (namespace (scope e v k w bs r.counts.bindings) (front_of c (take m e))) f = rw x.named at x.space in
      ap (λ (s : List Binding). expand_element s (take m e)) bound
      ∙ (sym (element_means e w (scope e v k w bs r.counts.bindings) x.colon z)
      ∙ rw (found-space e w f x.known, x.named))

  -- it stands in no element where nothing is open
  outermost : is_empty (elements_of r fs bs is w) ≡ eqb depth 0
  outermost =
      let l : length (elements_of r fs bs is w) ≡ depth = omega (arith, H.depth r fs bs is w, x.level, x.deep) in
      no_elements (elements_of r fs bs is w) ∙ rw l

  by_profile : {p : Bool} (ids : List Bytes) → mode.xmp ≡ p
      → starts_wrapper mode.xmp (take m e) (attributes_of e v k) (doc_of r fs bs is w ids).frames
      ≡ starts_wrapper p (take m e) (attributes_of e v k) (elements_of r fs bs is w)
  unfolding doc_of
  by_profile ids h = ap (λ (p : Bool). starts_wrapper p (take m e) (attributes_of e v k) (elements_of r fs bs is w)) h

-- ---- the arms of `is_wrapper`

module _ {mode : Mode} {depth : ℕ} {f : Found} {name : Bytes} {c : ℕ} {e w : List ℕ} where
  pub no_profile : mode.xmp ≡ false → TellsWrapper false mode depth f name c e w
  unfolding starts_wrapper
  no_profile h = record { answer = λ r fs bs is v m k ids x. sym (by_profile x ids h) }

  pub inside : mode.xmp ≡ true → (depth ≡ 0 → ⊥) → TellsWrapper false mode depth f name c e w
  unfolding starts_wrapper
  inside h d = record { answer = λ r fs bs is v m k ids x. sym (by_profile x ids h ∙ rw (outermost x, ne_eqb depth 0 d)) }

  pub by_name : {b : Bool} → mode.xmp ≡ true → depth ≡ 0 → b ≡ same (space_by e w xml_name (found_class f) ++ back_of c name) wrapper_name → TellsWrapper b mode depth f name c e w
  unfolding starts_wrapper names_wrapper
  by_name h d y = record { answer = λ r fs bs is v m k ids x. y ∙ sym (by_profile x ids h ∙ rw (outermost x, eq-eqb depth 0 d, expanded x)) }

-- l: its class, s: its namespace, t: its local part
pub joined_so : (e w : List ℕ) (f : Found) (name : Bytes) (c : ℕ) {l : Class} {s t : Bytes} {b : Bool} → l ≡ found_class f → s ≡ space_by e w xml_name l → t ≡ back_of c name → b ≡ same (s ++ t) wrapper_name
    → b ≡ same (space_by e w xml_name (found_class f) ++ back_of c name) wrapper_name
joined_so e w f name c p q u y = y ∙ rw (q, p, u)

-- ---- in a valid state: f is where its namespace was found

module _ (e v : List ℕ) (m c k : ℕ) (w bs : List ℕ) {r : Registers} {f : Found} {name : Bytes} (nm : name ≡ part e 0 m) (colon : Split c (take m e))
    (z : Names e w (namespace (scope e v k w bs r.counts.bindings) (front_of c name)) f) {fs is : List ℕ} (x : Valid r fs bs is w) (level : r.counts.inner ≡ 0) where
  pub unknown_none : is_unknown f ≡ true → starts_wrapper r.mode.xmp (take m e) (attributes_of e v k) (elements_of r fs bs is w) ≡ false
  unfolding starts_wrapper names_wrapper scope answered found_bytes part
  unknown_none u =
      let bound : declared (attributes_of e v k) ++ in_scope (elements_of r fs bs is w) ≡ scope e v k w bs r.counts.bindings = ap (declared (attributes_of e v k) ++◌) (in_scope_lem x) in
      let y : Names e w (namespace (scope e v k w bs r.counts.bindings) (front_of c (take m e))) f = rw nm at z in
      let g : expand_element (declared (attributes_of e v k) ++ in_scope (elements_of r fs bs is w)) (take m e) ≡ refuse NoNamespace =
      ap (λ (s : List Binding). expand_element s (take m e)) bound ∙ (sym (element_means e w (scope e v k w bs r.counts.bindings) colon y) ∙ unknown_space e w f (back_of c (take m e)) u) in
      go r.mode.xmp (is_empty (elements_of r fs bs is w)) g
    where
      go : (p : Bool) (b : Bool) → expand_element (declared (attributes_of e v k) ++ in_scope (elements_of r fs bs is w)) (take m e) ≡ refuse NoNamespace
          → starts_wrapper p (take m e) (attributes_of e v k) (elements_of r fs bs is w) ≡ false
      go false b g = refl
      go true b g = rw g (and-false (is_empty (elements_of r fs bs is w)))

  pub known_so : {b : Bool} → is_unknown f ≡ false → TellsWrapper b r.mode r.counts.depth f name c e w → starts_wrapper r.mode.xmp (take m e) (attributes_of e v k) (elements_of r fs bs is w) ≡ b
  unfolding doc_of
  known_so u t = sym (t.answer r fs bs is v m k [] (record { valid = x; level = level; deep = refl; chosen = refl; named = nm; colon = colon; space = z; known = u }))

-- ---- are the prefixes of its attributes known?

unfoldable pub known_at : List ℕ → ℕ → Bool
known_at cs j = not (eqb (kind_of (class_at cs j)) 1)

any_but : (c : Class) → (c ≡ Unknown → ⊥) → not (eqb (kind_of c) 1) ≡ true
any_but Declaration h = refl
any_but Unknown h = absurd (h refl)
any_but Unprefixed h = refl
any_but Xml h = refl
any_but (Own a n) h = refl
any_but (Held a n) h = refl

-- the test of `has_unknown`: c is the class that was loaded
module _ (cs : List ℕ) (j : ℕ) {c : Class} (p : c ≡ class_at cs j) where
  pub unknown_here : c ≡ Unknown → known_at cs j ≡ false
  unfolding known_at
  unknown_here h = rw (← p, h)

  pub known_here : (c ≡ Unknown → ⊥) → known_at cs j ≡ true
  unfolding known_at
  known_here h = rw (← p) (any_but c h)

-- what a class tells of an attribute
module _ (e w : List ℕ) (bs : List Binding) (a : Attribute) {p : Bytes} where
  known_by : (c : Class) → Says c e w bs a p → p ≡ prefix_of (name_of a) → (is_declaration a || is_known bs (name_of a)) ≡ not (eqb (kind_of c) 1)
  unfolding is_known is_some
  known_by Declaration h q = rw h
  known_by Unprefixed h q = rw (h.0, ← q, h.1)
  known_by Unknown h q = rw (h.other, ← q, h.some, h.is)
  known_by Xml h q = rw (h.other, ← q, h.some, h.is)
  known_by (Own at n) h q = rw (h.other, ← q, h.some, h.is)
  known_by (Held at n) h q = rw (h.other, ← q, h.some, h.is)

-- one attribute, then the others
next_known : {A : Type 0} (t u : Bool) (x : Answer (List (Unit {0}))) (y : Answer A) → (x >> y) ≡ ((require u or NoNamespace) >> y)
    → (((require t or NoNamespace) >>= λ b. x >>= λ l. good (b ∷ l)) >> y) ≡ ((require t && u or NoNamespace) >> y)
unfolding ◌>>=◌ ◌>>◌ require◌or◌
next_known false u x y h = refl
next_known true u (refuse n) y h = h
next_known true u (good l) y h = h

module _ {e v : List ℕ} {k : ℕ} {w bs : List ℕ} {n : ℕ} {cs : List ℕ} (h : Classified e v k w bs n cs k) (s : Splits e v k) where
  known_at_lem : (j : ℕ) → j < k → (is_declaration (attribute_at e v j) || is_known (scope e v k w bs n) (name_of (attribute_at e v j))) ≡ known_at cs j
  unfolding attribute_at name_of known_at
  known_at_lem j l = known_by e w (scope e v k w bs n) (attribute (name_at e v j) (value_at e v j)) (class_at cs j) (h.each j l) (s.at j l).front

  known_from : {A : Type 0} (y : Answer A) (j m : ℕ) → j + m ≤ k
      → (each (known_attribute (scope e v k w bs n)) (attributes_from e v j m) >> y) ≡ ((require every (known_at cs) (places j m) or NoNamespace) >> y)
  unfolding each known_attribute attributes_from places every ◌>>◌ require◌or◌
  known_from y j zero b = refl
  known_from y j (suc m) b =
      rw (known_at_lem j (omega arith))
      (next_known (known_at cs j) (every (known_at cs) (places (suc j) m)) (each (known_attribute (scope e v k w bs n)) (attributes_from e v (suc j) m)) y
      (known_from y (suc j) m (omega arith)))

-- ---- what comes of its start tag

abbrev pub wrapper_start : ℕ → Start
wrapper_start labels = record { plan = wrapper_plan labels; li = false; id = Missing; kind = Missing; iri = Missing; named = false; property = Missing }

-- the bytes of its name and its bindings
abbrev pub wrapper_bytes : List ℕ → List ℕ → ℕ → ℕ → ℕ
wrapper_bytes e v m k = length (part e 0 m) + total binding_bytes (declared (attributes_of e v k))

-- the tests of `fits`: h is what is held
module _ (e v : List ℕ) (m k top noted : ℕ) {h : ℕ} (q : h ≡ top - noted) where
  pub held_much : 49_152 < h → false ≡ leb (top - noted + wrapper_bytes e v m k) most_held_bytes
  unfolding most_held_bytes
  held_much l = sym (lt-leb (top - noted + wrapper_bytes e v m k) 49_152 (omega (arith, q)))

  pub held-left : h ≤ 49_152 → {t : Bytes} {b : ℕ} → t ≡ part e 0 m → b ≡ total binding_bytes (declared (attributes_of e v k)) → leb (length t + b) (49_152 - h) ≡ leb (top - noted + wrapper_bytes e v m k) most_held_bytes
  unfolding most_held_bytes
  held-left l {t} {b} x y = rw (x, y, q) (left_over (wrapper_bytes e v m k) (top - noted) 49_152 (omega (arith, q)))

-- the wrapper's start tag, well-formed, in a lawful state; cs: the classes of its attributes
pub record Wrapping (r : Registers) (count used : ℕ) (fs bs is w ia il st e v : List ℕ) (m k : ℕ) (cs : List ℕ) : Type 0 where
  pub lawful : Lawful r count used (lent fs bs is w ia il st [])
  pub level : r.counts.inner ≡ 0
  pub formed : Formed r fs bs is w e v m k cs
  pub splits : Splits e v k
  pub wraps : starts_wrapper r.mode.xmp (take m e) (attributes_of e v k) (elements_of r fs bs is w) ≡ true

-- what `judge_wrapper` answers, whatever roles and area there are
pub record JudgesWrapper (q : Result Start Refusal) (r : Registers) (e v : List ℕ) (m k : ℕ) (w cs : List ℕ) : Type 0 where
  pub cases : (count used : ℕ) (fs bs is ia il st rs b : List ℕ) → Wrapping r count used fs bs is w ia il st e v m k cs → Rules q r count used fs bs is w ia il st e v m k cs rs b

-- by what the code tests
opened : {e v : List ℕ} {k : ℕ} {w bs : List ℕ} {n : ℕ} {cs : List ℕ} (m : ℕ) (d : Doc)
    → Splits e v k → Classified e v k w bs n cs k
    → declared (attributes_of e v k) ++ in_scope d.frames ≡ scope e v k w bs n
    → open_wrapper (take m e) (attributes_of e v k) d
    ≡ ((require every (known_at cs) (places 0 k) or NoNamespace)
    >> ((require every (short_at e v w cs) (places 0 k) or OverLimit) >> good ([], wrapped (take m e) (attributes_of e v k) d)))
unfolding open_wrapper
opened {e} {v} {k} {w} {bs} {n} {cs} m d s h q =
    rw (q, ← short_means h s)
    (known_from h s ((require every (short_at e v w cs) (places 0 k) or OverLimit) >> good ([], wrapped (take m e) (attributes_of e v k) d)) 0 k (omega arith))

none_there : {f : Element} {es : List Element} → ◌≡◌ {A = List Element} [] (f ∷ es) → ⊥
none_there h = let z : ◌≡◌ {A = ℕ} 0 1 = cc in omega arith

wrapper_as : (e v : List ℕ) (m k : ℕ) (a : List ℕ) (n : ℕ) (s : Subject)
    → record { name = take m e; bindings = declared (attributes_of e v k); own_base = none; own_tag = unsaid; kind = wrapper false; part = ordinary } ≡ new_element e v m k a (wrapper_plan n).parts s
unfolding wrapper_element
wrapper_as e v m k a n s = sym (wrapper_element_lem e v m k a n s)

-- nothing is open
starts_empty : (p : Bool) (n : Bytes) (as' : List Attribute) (es : List Element) → starts_wrapper p n as' es ≡ true → es ≡ []
unfolding starts_wrapper is_empty
starts_empty false n as' es h = absurd (false≢true h)
starts_empty true n as' [] h = refl
starts_empty true n as' (f ∷ es) h = absurd (false≢true h)

-- its parts have no bytes
no_parts : (n : ℕ) (e b : List ℕ) → parts_bytes (wrapper_plan n).parts e b ≡ 0
unfolding text_of tag_of_own
no_parts n e b = refl

wrapper_measures : (e v : List ℕ) (m k : ℕ) (b : List ℕ) (n : ℕ) → Measures e v m k b (wrapper_plan n).parts (wrapper_bytes e v m k)
wrapper_measures e v m k b n =
    record { bytes = λ s. omega (arith, (measured e v m k b (wrapper_plan n).parts (wrapper-fitting n) refl refl refl).bytes s, no_parts n e b) }

module _ {r : Registers} {count used : ℕ} {fs bs is w ia il st e v : List ℕ} {m k : ℕ} {cs : List ℕ} (x : Wrapping r count used fs bs is w ia il st e v m k cs) where
  abbrev doc : Doc
  doc = doc_of r fs bs is w (ids_of ia il st count)

  opens : {a : Answer Step} → open_wrapper (take m e) (attributes_of e v k) doc ≡ a → on_opening (take m e) (attributes_of e v k) doc ≡ a
  unfolding doc_of
  opens h = opens_wrapper (x.formed.form (ids_of ia il st count)) x.formed.counts x.wraps ∙ h

  tested : open_wrapper (take m e) (attributes_of e v k) doc
      ≡ ((require every (known_at cs) (places 0 k) or NoNamespace) >> ((require every (short_at e v w cs) (places 0 k) or OverLimit) >> good ([], wrapped (take m e) (attributes_of e v k) doc)))
  unfolding doc_of scope
  tested = opened m doc x.splits x.formed.classes (ap (declared (attributes_of e v k) ++◌) (in_scope_lem x.lawful.valid))

  stops : {n : Refusal} → on_opening (take m e) (attributes_of e v k) doc ≡ refuse n → (room : ℕ) → handled (P.opening (take m e) (attributes_of e v k)) room doc ≡ refuse n
  unfolding on_event
  stops {n} h room = handled_by (P.opening (take m e) (attributes_of e v k)) room doc h ∙ refused_on room n

  empty : elements_of r fs bs is w ≡ []
  empty = starts_empty r.mode.xmp (take m e) (attributes_of e v k) (elements_of r fs bs is w) x.wraps

  first : r.counts.depth ≡ 0
  first = omega (arith, H.depth r fs bs is w, ap length empty)

  module _ (known : every (known_at cs) (places 0 k) ≡ true) (short : every (short_at e v w cs) (places 0 k) ≡ true) (rs b : List ℕ) where
    abbrev start : Start
    start = wrapper_start r.counts.labels

    abbrev step : Step
    step = (lines_by start doc (subject_below fs w r.counts.depth) w e v k b cs rs, behind_by start doc [] (λ p. p) (subject_below fs w r.counts.depth) e v m k b)

    -- what the definitions open is what is planned
    steps : on_opening (take m e) (attributes_of e v k) doc ≡ good step
    unfolding ◌>>◌ require◌or◌ wrapped doc_of told count_li enter maybe
    steps = opens (tested ∙ rw (known, short, empty) (ap (λ (f : Element). good ([], record { mode = r.mode; start_base = start_of r w; frames = f ∷ []; rooted = true; labels = r.counts.labels; ids = ids_of ia il st count })) element))
      where
        element : record { name = take m e; bindings = declared (attributes_of e v k); own_base = none; own_tag = unsaid; kind = wrapper false; part = ordinary } ≡ new_element e v m k b (wrapper_plan r.counts.labels).parts (subject_below fs w r.counts.depth)
        element = wrapper_as e v m k b r.counts.labels (subject_below fs w r.counts.depth)

    held_is : held_bytes step.1 ≡ r.store.top - r.store.noted + wrapper_bytes e v m k
    unfolding held_bytes doc_of
    held_is =
        omega (arith, held_with_lem x.lawful.valid x.level [] (λ p. p) (new_element e v m k b (wrapper_plan r.counts.labels).parts (subject_below fs w r.counts.depth)), (wrapper_measures e v m k b r.counts.labels).bytes (subject_below fs w r.counts.depth))

    ids_fit : IdsFit step.1.ids
    unfolding doc_of enter maybe L.all
    ids_fit = let t = x.lawful.table in record { few = omega (arith, length_ids ia il st count, t.few); small = omega (arith, total_ids t, t.within) }

    -- 7
    pub held_over : leb (r.store.top - r.store.noted + wrapper_bytes e v m k) most_held_bytes ≡ false → (room : ℕ) → handled (P.opening (take m e) (attributes_of e v k)) room doc ≡ refuse OverLimit
    unfolding on_event
    held_over h room =
        handled_by (P.opening (take m e) (attributes_of e v k)) room doc steps
        ∙ over_limit room step (fits-held step.1 ids_fit ∙ rw held_is h)

    counted_not : CountedBy r fs [] false
    unfolding top_frame is_li F.all
    counted_not = record { node = λ h. refl; wraps = λ h. absurd (false≢true (rw (eq-eqb r.counts.depth 0 first) at h)) }

    pub wrapper_goes : leb (r.store.top - r.store.noted + wrapper_bytes e v m k) most_held_bytes ≡ true → Goes start doc r fs bs w e v m k b cs rs count used
    unfolding doc_of most_held_bytes stands text_of
    wrapper_goes h =
        let fl = flat x.lawful.valid x.level in
        let hd = leb-true (r.store.top - r.store.noted + wrapper_bytes e v m k) 49_152 h in
        record {
          iri = [];
          notes = λ p. p;
          steps = steps;
          counted = counted_not;
          noted = λ f es q. absurd (none_there (sym empty ∙ q));
          granted =
              record {
                ready = ready_valid x.lawful.valid x.level x.formed.deep (omega (arith, x.formed.bound, fl.bindings)) (wrapper_measures e v m k b r.counts.labels) hd (wrapper-fitting r.counts.labels) (eq-eqb r.counts.depth 0 first);
                numbered = λ q. absurd (false≢true q);
                few = x.lawful.valid.labels;
                short = λ q. omega arith;
                inners = is;
                valid = x.lawful.valid;
                iri = [];
                counted = counted_not;
              };
          room = λ q. absurd (false≢true q);
        }

-- the returns of `judge_wrapper`
module _ {r : Registers} {e v : List ℕ} {m k : ℕ} {w cs : List ℕ} where
  pub unknown_prefix : every (known_at cs) (places 0 k) ≡ false → JudgesWrapper (Err NoNamespace) r e v m k w cs
  unfolding ◌>>◌ require◌or◌
  unknown_prefix p = record { cases = λ count used fs bs is ia il st rs b x. stops x (opens x (tested x ∙ rw p)) }

  module _ (p : every (known_at cs) (places 0 k) ≡ true) where
    pub long-name : every (short_at e v w cs) (places 0 k) ≡ false → JudgesWrapper (Err OverLimit) r e v m k w cs
    unfolding ◌>>◌ require◌or◌
    long-name u = record { cases = λ count used fs bs is ia il st rs b x. stops x (opens x (tested x ∙ rw (p, u))) }

    module _ (u : every (short_at e v w cs) (places 0 k) ≡ true) {f : Bool} (q : f ≡ leb (r.store.top - r.store.noted + wrapper_bytes e v m k) most_held_bytes) where
      pub wrapper_full : f ≡ false → JudgesWrapper (Err OverLimit) r e v m k w cs
      wrapper_full h = record { cases = λ count used fs bs is ia il st rs b x. held_over x p u rs b (sym q ∙ h) }

      pub wrapper_judged : {y : Start} → f ≡ true → y ≡ wrapper_start r.counts.labels → JudgesWrapper (Ok y) r e v m k w cs
      wrapper_judged h z = record { cases = λ count used fs bs is ia il st rs b x. rw z (wrapper_goes x p u rs b (sym q ∙ h)) }
