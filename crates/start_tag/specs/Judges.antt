-- What is judged of a start tag that was read, and what comes of it.
use Rattle.std.specs.Prelude.{ℕ, ◌+◌, ◌-◌, ◌≤◌, Bool, true, false, ◌&&◌, not, leb, length, take}
use Rattle.std.proofs.Math.Path.{◌≡◌, ap}
use Rattle.std.proofs.Common.{sym, ◌∙◌, arith}
use Rattle.std.proofs.Math.Option.{Option, some}
use mathlib.Core.List.{List, [], ◌∷◌}
use borrow.Author.Tests.{leb-true}
use Rattle.spec.specs.Bytes.{Bytes, same, require◌or◌}
use Rattle.spec.specs.Rdf.{rdf}
use Rattle.spec.proofs.Booleans.{and_left, and_right}
use Rattle.spec.specs.Numbers.{Answer, refuse, good}
use Rattle.spec.specs.declared.Refusal.{Refusal}
use Rattle.spec.specs.declared.Refusal.TheVariants.{OverLimit, Reserved, ProfileBroken}
use Rattle.spec.specs.Limits.{most_held_bytes, most_name_bytes}
use Rattle.spec.specs.Namespaces.{Binding}
use Rattle.spec.specs.Pyx as P
use Rattle.spec.specs.NTriples.{Triple}
use Rattle.spec.specs.Document.{Part, Frame as Element, Kind as What, Doc, language_in_force, frame_bytes, place_in}
use Rattle.spec.specs.StartTag as S
use Rattle.spec.specs.Productions.{Opened, element_type}
use Rattle.spec.specs.declared.Mode.{Mode}
use Rattle.spec.specs.Xmp.{starts_wrapper, keeps, new_part, noted}
use Rattle.spec.specs.Opening.{enter, opened, mode_rules, under_rules, on_opening}
use Rattle.spec.specs.RdfXml.{on_event}
use Rattle.state_ids.specs.Ids.{ids_of, room_for}
use Rattle.spec.specs.XmlLang.{Own, in_force}
use Rattle.state.specs.Language.{own_of_code, is_said}
use Rattle.state.specs.declared.language.Own as code
use Rattle.state.specs.declared.Registers.{Registers}
use Rattle.state.specs.Meaning.{subject_below, elements_of, doc_of}
use Rattle.state.specs.Valid.{stands}
use Rattle.start_names.specs.Tag.{attributes_of}
use Rattle.ntriples.specs.Terms.{id_of as given}
use Rattle.start_attributes.specs.Properties.{properties_from, properties}
use Rattle.event.specs.Result.{handled, handled_by, refused_on, over_limit}
use Rattle.event.specs.Progress.{lent, Lawful}
use Rattle.start_element.specs.declared.Source.{Source}
use Rattle.start_element.specs.declared.Source.TheVariants as source
use Rattle.start_element.specs.Element.{text_of, maybe, new_element, Fitting}
use Rattle.start_element.specs.Sizes.{Measures}
use Rattle.start_element.specs.Laws.{ready_valid, Counts, CountedBy, NotedBy, noting}
use Rattle.state_stack.specs.Change.{flat}
use Rattle.start_plan.specs.declared.Start.{Start}
use Rattle.start_plan.specs.declared.Plan.{Plan}
use Rattle.start_plan.specs.declared.Given.{Given}
use Rattle.start_plan.specs.Plan.{is_there}
use Rattle.start_plan.specs.Says.{Says}
use Rattle.start_plan.specs.Does.{Does}
use Rattle.start_plan.specs.Goes.{told, main_of, object_of, property_of, lines_by, behind_by, Goes}
use Rattle.start_tag.specs.declared.reading.Tag.{Tag}
use Rattle.start_tag.specs.Tag.{Tells}
use Rattle.start_tag.specs.Made.{short_if}
use Rattle.start_lines.specs.Lines.{element_type_lem}
use Rattle.start_tag.specs.Giving.{made_at, Gives, Shorts, shorts, Keeps, given-says, kind-says, iri_says}
use Rattle.start_form.specs.Order.{production_in, produced_in, no_production, too_long_lem, opens_good}
use Rattle.start_form.specs.Form.{Formed}
use Rattle.start_tag.specs.Limits.{room_for_id, opening, element_of, behind_fits}
use Rattle.start_tag.specs.Rules.{is_reserved, under_reserved, under_broken}
use Rattle.std.specs.Prelude.{Result, Ok, Err}

-- a start tag t that was read, in a state and beside a table of rdf:IDs; cs and rs: the classes and roles of its attributes; a: what was made for it
pub record Known (t : Tag) (r : Registers) (count used : ℕ) (fs bs is w ia il st e v : List ℕ) (m k : ℕ) (cs rs a : List ℕ) : Type 0 where
  pub lawful : Lawful r count used (lent fs bs is w ia il st [])
  pub level : r.counts.inner ≡ 0
  pub formed : Formed r fs bs is w e v m k cs
  pub other : starts_wrapper r.mode.xmp (take m e) (attributes_of e v k) (elements_of r fs bs is w) ≡ false
  pub tells : Tells t e v m k w cs rs a (doc_of r fs bs is w (ids_of ia il st count))

-- ---- what comes of it

abbrev pub Rules : Result Start Refusal → Registers → ℕ → ℕ → List ℕ → List ℕ → List ℕ → List ℕ → List ℕ → List ℕ → List ℕ → List ℕ → List ℕ → ℕ → ℕ → List ℕ → List ℕ → List ℕ → Type 0
Rules (Err n) r count used fs bs is w ia il st e v m k cs rs b = (room : ℕ) → handled (P.opening (take m e) (attributes_of e v k)) room (doc_of r fs bs is w (ids_of ia il st count)) ≡ refuse n
Rules (Ok x) r count used fs bs is w ia il st e v m k cs rs b = Goes x (doc_of r fs bs is w (ids_of ia il st count)) r fs bs w e v m k b cs rs count used

-- b: the area behind it
pub record Judges (q : Result Start Refusal) (t : Tag) (r : Registers) (count used : ℕ) (fs w e v : List ℕ) (m k : ℕ) (a b : List ℕ) : Type 0 where
  pub cases : (bs is ia il st cs rs : List ℕ) → Known t r count used fs bs is w ia il st e v m k cs rs a → Rules q r count used fs bs is w ia il st e v m k cs rs b
  pub same : length b ≡ length a

-- ---- what is known before the limits on what is kept are tested

-- not refused so far: n, the bytes that the element holds, decides
pub record Waits (x : Start) (r : Registers) (count used : ℕ) (fs bs is w ia il st e v : List ℕ) (m k : ℕ) (cs rs b : List ℕ) : Type 0 where
  pub full : {n : ℕ} → Measures e v m k b x.plan.parts n → (room_for_id count used x.id e b && leb (r.store.top - r.store.noted + n) most_held_bytes) ≡ false
      → (room : ℕ) → handled (P.opening (take m e) (attributes_of e v k)) room (doc_of r fs bs is w (ids_of ia il st count)) ≡ refuse OverLimit
  pub fits : {n : ℕ} → Measures e v m k b x.plan.parts n → (room_for_id count used x.id e b && leb (r.store.top - r.store.noted + n) most_held_bytes) ≡ true
      → Goes x (doc_of r fs bs is w (ids_of ia il st count)) r fs bs w e v m k b cs rs count used

abbrev pub Drafted : Result Start Refusal → Registers → ℕ → ℕ → List ℕ → List ℕ → List ℕ → List ℕ → List ℕ → List ℕ → List ℕ → List ℕ → List ℕ → ℕ → ℕ → List ℕ → List ℕ → List ℕ → Type 0
Drafted (Err n) r count used fs bs is w ia il st e v m k cs rs b = Rules (Err n) r count used fs bs is w ia il st e v m k cs rs b
Drafted (Ok x) r count used fs bs is w ia il st e v m k cs rs b = Waits x r count used fs bs is w ia il st e v m k cs rs b

-- the bytes of what is planned can be counted
abbrev pub Measurable : Result Start Refusal → Type 0
Measurable (Err n) = Unit
Measurable (Ok x) = Fitting x.plan.parts

pub record Drafts (q : Result Start Refusal) (t : Tag) (r : Registers) (fs w e v : List ℕ) (k : ℕ) (a b : List ℕ) : Type 0 where
  pub cases : (count used m : ℕ) (bs is ia il st cs rs : List ℕ) → Known t r count used fs bs is w ia il st e v m k cs rs a → Drafted q r count used fs bs is w ia il st e v m k cs rs b
  pub measurable : Measurable q
  pub same : length b ≡ length a

-- ---- how it comes to that

module _ {t : Tag} {r : Registers} {count used : ℕ} {fs bs is w ia il st e v : List ℕ} {m k : ℕ} {cs rs a : List ℕ} (y : Known t r count used fs bs is w ia il st e v m k cs rs a) where
  stops : {n : Refusal} → on_opening (take m e) (attributes_of e v k) (doc_of r fs bs is w (ids_of ia il st count)) ≡ refuse n
      → (room : ℕ) → handled (P.opening (take m e) (attributes_of e v k)) room (doc_of r fs bs is w (ids_of ia il st count)) ≡ refuse n
  unfolding on_event
  stops {n} h room = handled_by (P.opening (take m e) (attributes_of e v k)) room (doc_of r fs bs is w (ids_of ia il st count)) h ∙ refused_on room n

  no_wrapper : starts_wrapper (doc_of r fs bs is w (ids_of ia il st count)).mode.xmp (take m e) (attributes_of e v k) (doc_of r fs bs is w (ids_of ia il st count)).frames ≡ false
  unfolding doc_of
  no_wrapper = y.other

  -- what the production makes of it, under the rules of the mode
  ruled : {x : Answer Opened} → under_rules (mode_rules r.mode (elements_of r fs bs is w) y.tells.is) (production_in (place_in (elements_of r fs bs is w)) y.tells.is r.counts.labels) ≡ x
      → produced_in (place_in (elements_of r fs bs is w)) y.tells.is (doc_of r fs bs is w (ids_of ia il st count)) ≡ x
  unfolding doc_of produced_in
  ruled h = h

  -- 14
  pub reserved_stops : production_in (place_in (elements_of r fs bs is w)) y.tells.is r.counts.labels ≡ refuse Reserved
      → (room : ℕ) → handled (P.opening (take m e) (attributes_of e v k)) room (doc_of r fs bs is w (ids_of ia il st count)) ≡ refuse Reserved
  unfolding doc_of
  reserved_stops h = stops (no_production (y.formed.form (ids_of ia il st count)) y.formed.counts no_wrapper y.tells.answer (ruled (rw h (under_reserved (mode_rules r.mode (elements_of r fs bs is w) y.tells.is)))))

  -- 19
  pub broken_stops : keeps r.mode.xmp (elements_of r fs bs is w) y.tells.is ≡ false → is_reserved (production_in (place_in (elements_of r fs bs is w)) y.tells.is r.counts.labels) ≡ false
      → (room : ℕ) → handled (P.opening (take m e) (attributes_of e v k)) room (doc_of r fs bs is w (ids_of ia il st count)) ≡ refuse ProfileBroken
  unfolding doc_of mode_rules require◌or◌
  broken_stops h f =
      stops (no_production (y.formed.form (ids_of ia il st count)) y.formed.counts no_wrapper y.tells.answer
      (ruled (rw h (under_broken ProfileBroken (production_in (place_in (elements_of r fs bs is w)) y.tells.is r.counts.labels) f))))

module _ {t : Tag} {r : Registers} {count used : ℕ} {fs bs is w ia il st e v : List ℕ} {m k : ℕ} {cs rs a : List ℕ} (y : Known t r count used fs bs is w ia il st e v m k cs rs a)
    (kp : keeps r.mode.xmp (elements_of r fs bs is w) y.tells.is ≡ true) where
  -- where its rules are kept, the mode adds nothing
  no_rules : produced_in (place_in (elements_of r fs bs is w)) y.tells.is (doc_of r fs bs is w (ids_of ia il st count)) ≡ production_in (place_in (elements_of r fs bs is w)) y.tells.is r.counts.labels
  unfolding mode_rules under_rules require◌or◌
  no_rules = ruled y (rw kp)

  -- 14, 15, 18
  pub production_stops : {n : Refusal} → production_in (place_in (elements_of r fs bs is w)) y.tells.is r.counts.labels ≡ refuse n
      → (room : ℕ) → handled (P.opening (take m e) (attributes_of e v k)) room (doc_of r fs bs is w (ids_of ia il st count)) ≡ refuse n
  unfolding doc_of
  production_stops h = stops y (no_production (y.formed.form (ids_of ia il st count)) y.formed.counts (no_wrapper y) y.tells.answer (no_rules ∙ h))

  module _ {o : Opened} (p : production_in (place_in (elements_of r fs bs is w)) y.tells.is r.counts.labels ≡ good o) where
    -- 7: a name, an IRI or a base
    pub long_stops : t.short ≡ false → (room : ℕ) → handled (P.opening (take m e) (attributes_of e v k)) room (doc_of r fs bs is w (ids_of ia il st count)) ≡ refuse OverLimit
    unfolding doc_of
    long_stops h = stops y (too_long_lem (y.formed.form (ids_of ia il st count)) y.formed.counts (no_wrapper y) y.tells.answer (no_rules ∙ p) (sym y.tells.short ∙ h))

    module _ (short : t.short ≡ true) where
      pub steps : on_opening (take m e) (attributes_of e v k) (doc_of r fs bs is w (ids_of ia il st count)) ≡ good (opened y.tells.is (doc_of r fs bs is w (ids_of ia il st count)) o)
      unfolding doc_of
      steps = opens_good (y.formed.form (ids_of ia il st count)) y.formed.counts (no_wrapper y) y.tells.answer (no_rules ∙ p) (sym y.tells.short ∙ short)

      -- 7: what would be kept behind it
      pub full_stops : (s : Source) (b : List ℕ) (n : ℕ) → maybe s e b ≡ y.tells.is.id → ((i : Bytes) → y.tells.is.id ≡ some i → length i ≤ most_name_bytes) → frame_bytes (element_of y.tells.is o) ≡ n
          → (room_for_id count used s e b && leb (r.store.top - r.store.noted + n) most_held_bytes) ≡ false
          → (room : ℕ) → handled (P.opening (take m e) (attributes_of e v k)) room (doc_of r fs bs is w (ids_of ia il st count)) ≡ refuse OverLimit
      unfolding on_event
      full_stops s b n q h f z room =
          handled_by (P.opening (take m e) (attributes_of e v k)) room (doc_of r fs bs is w (ids_of ia il st count)) steps
          ∙ over_limit room (opened y.tells.is (doc_of r fs bs is w (ids_of ia il st count)) o)
          (behind_fits y.lawful.valid y.level y.lawful.table y.tells.is o s e b n q h f ∙ z)

-- ---- what is carried out

-- by its plan; li: is it an rdf:li, named: is its element's IRI a type of its node, property: the IRI of the property that it is
abbrev pub start_by : Plan → Tag → Bool → Bool → Source → Start
start_by p t li named property =
    record { plan = p; li = li; id = made_at 0 t.id; kind = made_at 4096 t.kind; iri = made_at 5120 t.iri; named = named; property = property }

pub text_of_lem : (s : Source) (e a : List ℕ) {i : Bytes} → maybe s e a ≡ some i → text_of s e a ≡ i
unfolding maybe text_of
text_of_lem source.Missing e a h = absurd (let z : ◌≡◌ {A = ℕ} 0 1 = cc in omega arith)
text_of_lem (source.Own i n) e a h = cc
text_of_lem (source.Made i n) e a h = cc

there_room : (count used : ℕ) (s : Source) (e b : List ℕ) → is_there s ≡ true → room_for_id count used s e b ≡ true → room_for count used (length (text_of s e b)) ≡ true
unfolding room_for_id
there_room count used s e b q ro = rw q at ro

-- an rdf:ID that is short
pub short_id : {s : S.Tag} → Shorts s → (i : Bytes) → s.id ≡ some i → length i ≤ most_name_bytes
unfolding short_if
short_id {s} z i q = leb-true (length i) most_name_bytes (sym (ap short_if q) ∙ z.id)

module _ {t : Tag} {r : Registers} {count used : ℕ} {fs bs is w ia il st e v : List ℕ} {m k : ℕ} {cs rs a : List ℕ} (y : Known t r count used fs bs is w ia il st e v m k cs rs a)
    (kept : keeps r.mode.xmp (elements_of r fs bs is w) y.tells.is ≡ true) {o : Opened} (pr : production_in (place_in (elements_of r fs bs is w)) y.tells.is r.counts.labels ≡ good o) (short : t.short ≡ true)
    {b : List ℕ} (kp : Keeps a b) (ev : length e ≤ 32_768) {g : Given} (gv : Gives t v k g) {p : Plan} (pb : p.parts.base ≡ g.base) (pt : p.parts.tag ≡ g.tag)
    (d : Does p e b (subject_below fs w r.counts.depth) o (new_part r.mode.xmp (place_in (elements_of r fs bs is w)) y.tells.is.iri)) where
  says : Says g e b y.tells.is
  says = given-says y.tells short kp ev gv

  base-says : maybe p.parts.base e b ≡ y.tells.is.own_base
  base-says = ap (λ (s : Source). maybe s e b) pb ∙ says.base

  tag-says_own : own_of_code p.parts.tag b ≡ y.tells.is.own_tag
  tag-says_own = ap (λ (o : code.Own). own_of_code o b) pt ∙ says.tag

  id_says : maybe (made_at 0 t.id) e b ≡ y.tells.is.id
  id_says = ap (λ (s : Source). maybe s e b) (sym gv.id) ∙ says.id

  element_is : opening (new_part r.mode.xmp (place_in (elements_of r fs bs is w)) y.tells.is.iri) y.tells.is o ≡ new_element e v m k b p.parts (subject_below fs w r.counts.depth)
  unfolding new_element
  element_is = made y.tells.name y.tells.bindings (sym base-says) (sym tag-says_own) (sym d.kind) (sym d.part)
    where
      made : {n₁ n₂ : Bytes} {b₁ b₂ : List Binding} {x₁ x₂ : Option Bytes} {z₁ z₂ : Own} {k₁ k₂ : What} {q₁ q₂ : Part} → n₁ ≡ n₂ → b₁ ≡ b₂ → x₁ ≡ x₂ → z₁ ≡ z₂ → k₁ ≡ k₂ → q₁ ≡ q₂
          → ◌≡◌ {A = Element} (record { name = n₁; bindings = b₁; own_base = x₁; own_tag = z₁; kind = k₁; part = q₁ }) (record { name = n₂; bindings = b₂; own_base = x₂; own_tag = z₂; kind = k₂; part = q₂ })
      made p₁ p₂ p₃ p₄ p₅ p₆ = rw (p₁, p₂, p₃, p₄, p₅, p₆)

  -- what else is known of what is carried out: li: is it counted, named: is its element's IRI a type of its node, property: the property's IRI
  pub record Carries (li named : Bool) (property : Source) : Type 0 where
    pub typed : named ≡ not (same y.tells.is.iri (rdf "Description"))
    pub counted : CountedBy r fs y.tells.is.iri li
    pub noted : NotedBy (noted r.mode.xmp y.tells.is) (noting r.mode.xmp li (text_of p.parts.main e b) (is_said p.parts.tag)) (elements_of r fs bs is w)
    pub brief : r.mode.xmp ≡ true → length (text_of p.parts.main e b) ≤ 1_024
    pub numbered : li ≡ true → Counts r fs
    pub few : p.labels ≤ 99_999_999
    pub stood : stands p.parts.kind fs r.counts.depth ≡ true
    pub lines : o.lines
        ≡ told p.lines (main_of (start_by p t li named property) e b) (object_of (start_by p t li named property) e b) y.tells.is.language y.tells.is.attributes y.tells.is.type (element_type y.tells.is.iri) (property_of (start_by p t li named property) e b (subject_below fs w r.counts.depth))

  -- what the definitions open is what is planned
  as_planned : (li named : Bool) (property : Source) → Carries li named property
      → opened y.tells.is (doc_of r fs bs is w (ids_of ia il st count)) o
      ≡ (lines_by (start_by p t li named property) (doc_of r fs bs is w (ids_of ia il st count)) (subject_below fs w r.counts.depth) w e v k b cs rs, behind_by (start_by p t li named property) (doc_of r fs bs is w (ids_of ia il st count)) y.tells.is.iri (noted r.mode.xmp y.tells.is) (subject_below fs w r.counts.depth) e v m k b)
  unfolding opened doc_of
  as_planned li named property c =
      made (c.lines ∙ written) element_is (sym d.labels) (ap (λ (i : Option Bytes). enter i (ids_of ia il st count)) (sym id_says))
    where
      written : told p.lines (main_of (start_by p t li named property) e b) (object_of (start_by p t li named property) e b) y.tells.is.language y.tells.is.attributes y.tells.is.type (element_type y.tells.is.iri) (property_of (start_by p t li named property) e b (subject_below fs w r.counts.depth))
          ≡ told p.lines (main_of (start_by p t li named property) e b) (object_of (start_by p t li named property) e b) (in_force (own_of_code p.parts.tag b) (language_in_force (elements_of r fs bs is w))) (properties_from e v w cs rs 0 k) (maybe (made_at 4096 t.kind) e b) (given named (text_of (made_at 5120 t.iri) e b)) (property_of (start_by p t li named property) e b (subject_below fs w r.counts.depth))
      written =
          let typed : given named (text_of (made_at 5120 t.iri) e b) ≡ element_type y.tells.is.iri = ap (given named) (text_of_lem (made_at 5120 t.iri) e b (iri_says y.tells short kp ev)) ∙ element_type_lem y.tells.is.iri c.typed in
          rw (typed, kind-says y.tells short kp ev, tag-says_own, y.tells.language, y.tells.attributes ∙ properties y.tells.roles)

      made : {l₁ l₂ : List Triple} {x₁ x₂ : Element} {n₁ n₂ : ℕ} {i₁ i₂ : List Bytes} {f : List Element} {m₁ : Mode} {s₁ : Option Bytes} → l₁ ≡ l₂ → x₁ ≡ x₂ → n₁ ≡ n₂ → i₁ ≡ i₂
          → ◌≡◌ {A = List Triple × Doc} (l₁, record { mode = m₁; start_base = s₁; frames = x₁ ∷ f; rooted = true; labels = n₁; ids = i₁ }) (l₂, record { mode = m₁; start_base = s₁; frames = x₂ ∷ f; rooted = true; labels = n₂; ids = i₂ })
      made p₁ p₂ p₃ p₄ = rw (p₁, p₂, p₃, p₄)

  id_short : (i : Bytes) → y.tells.is.id ≡ some i → length i ≤ most_name_bytes
  id_short = short_id (shorts y.tells.is (sym y.tells.short ∙ short))

  module _ {n : ℕ} (me : Measures e v m k b p.parts n) where
    bytes_are : frame_bytes (element_of y.tells.is o) ≡ n
    unfolding frame_bytes
    bytes_are = ap frame_bytes element_is ∙ me.bytes (subject_below fs w r.counts.depth)

    -- 7
    limit_stops : (room_for_id count used (made_at 0 t.id) e b && leb (r.store.top - r.store.noted + n) most_held_bytes) ≡ false
        → (room : ℕ) → handled (P.opening (take m e) (attributes_of e v k)) room (doc_of r fs bs is w (ids_of ia il st count)) ≡ refuse OverLimit
    limit_stops z = full_stops y kept pr short (made_at 0 t.id) b n id_says id_short bytes_are z

    goes : (li named : Bool) (property : Source) → (room_for_id count used (made_at 0 t.id) e b && leb (r.store.top - r.store.noted + n) most_held_bytes) ≡ true → Carries li named property
        → Goes (start_by p t li named property) (doc_of r fs bs is w (ids_of ia il st count)) r fs bs w e v m k b cs rs count used
    unfolding most_held_bytes doc_of
    goes li named property z c =
        let ro = and_left (room_for_id count used (made_at 0 t.id) e b) _ z in
        let hd = leb-true (r.store.top - r.store.noted + n) 49_152 (and_right (room_for_id count used (made_at 0 t.id) e b) _ z) in
        let fl = flat y.lawful.valid y.level in
        record {
          iri = y.tells.is.iri;
          notes = noted r.mode.xmp y.tells.is;
          steps = steps y kept pr short ∙ ap good (as_planned li named property c);
          counted = c.counted;
          noted = c.noted;
          granted =
              record {
                ready = ready_valid y.lawful.valid y.level y.formed.deep (omega (arith, y.formed.bound, fl.bindings)) me hd d.fitting c.stood;
                numbered = c.numbered;
                few = c.few;
                short = c.brief;
                inners = is;
                valid = y.lawful.valid;
                iri = y.tells.is.iri;
                counted = c.counted;
              };
          room = λ q. there_room count used (made_at 0 t.id) e b q ro;
        }

  pub waits : (li named : Bool) (property : Source) → Carries li named property → Waits (start_by p t li named property) r count used fs bs is w ia il st e v m k cs rs b
  waits li named property c = record { full = λ me z. limit_stops me z; fits = λ me z. goes me li named property z c }
