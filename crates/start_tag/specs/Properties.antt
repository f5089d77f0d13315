-- Property elements: judged, and what is made of one.
use Rattle.std.specs.Prelude.{ℕ, suc, ◌+◌, ◌<◌, ◌≤◌, Bool, ◌||◌, List, ◌++◌, ltb}
use Rattle.std.proofs.Math.Path.{◌≡◌, refl, ap}
use Rattle.std.proofs.Common.{sym, ◌∙◌, inl, arith, add-one, length-append, leb-true}
use Rattle.std.proofs.Math.Bool.{true, false, not}
use Rattle.std.proofs.lemmas.Bool.{false≢true, not-true, not-false}
use Rattle.std.proofs.Math.Option.{Option, some}
use Rattle.std.proofs.Math.ListN.{length}
use Rattle.spec.specs.Bytes.{Bytes, same, is_some, when◌then◌else◌, ◌>>◌, require◌or◌}
use Rattle.spec.proofs.Bytes.{same_true}
use Rattle.spec.specs.Numbers.{refuse, good}
use Rattle.spec.specs.declared.Refusal.{Refusal}
use Rattle.spec.specs.declared.Refusal.TheVariants.{OverLimit, Reserved, ProfileBroken}
use Rattle.spec.specs.Limits.{most_labels, most_held_bytes, most_name_bytes}
use Rattle.spec.specs.Xmp as X
use Rattle.spec.specs.Xmp.{new_part}
use Rattle.spec.specs.Rdf.{rdf, may_be_property}
use Rattle.spec.specs.Rdf as F
use Rattle.spec.specs.NTriples.{Subject, label, decimal}
use Rattle.spec.specs.Document as D
use Rattle.spec.specs.Document.{ordinary}
use Rattle.spec.specs.Productions as O
use Rattle.spec.specs.StartTag as S
use Rattle.spec.specs.Productions.{Opened, tag_lines, element_type, is_li, property_iri, has_node, open_property, parse_type_of, no_parse_type}
use Rattle.copy.specs.Copy.{part, Wrote, wrote_part, wrote_same}
use Rattle.label.specs.Digits.{length-decimal}
use Rattle.state_words.specs.Parts.{TABLE}
use Rattle.state_words.specs.declared.Kind.{Kind}
use Rattle.state_words.specs.declared.Kind.TheVariants.{Rdf, NodeElt, ParseTypeCollectionPropertyElt, ParseTypeLiteralPropertyElt, ParseTypeOtherPropertyElt, Wrapper}
use Rattle.state_words.specs.Kept.{Kept, kept_all, kept_then, kept_before, kept_behind, kept_less}
use Rattle.state_words.specs.declared.Frame.{Frame}
use Rattle.state_words.specs.Words.{pick, frame_at}
use Rattle.state_ids.specs.Ids.{ids_of}
use Rattle.spec.specs.XmlLang.{carries}
use Rattle.state.specs.Language.{is_said, carries_by_lem}
use Rattle.state.specs.declared.Registers.{Registers}
use Rattle.state.specs.Meaning.{subject_below, elements_of, count}
use Rattle.state_stack.specs.Calls.{top_frame, same_kind}
use Rattle.start_names.specs.Tag.{value_at}
use Rattle.start_references.specs.declared.reference.Reference.{Reference}
use Rattle.start_references.specs.Reference.{given}
use Rattle.start_references.specs.Values.{value_if}
use Rattle.start_attributes.specs.Judgment.{said}
use Rattle.start_rules.specs.declared.ParseType.{ParseType}
use Rattle.start_rules.specs.declared.ParseType.TheVariants as parse
use Rattle.start_rules.specs.Judged.{parse_type_is, PropertyTag, PropertyJudged, property_in, takes_label, property_opened}
use Rattle.start_rules.specs.Judged as J
use Rattle.start_rules.specs.Made.{li_iri, own_iri}
use Rattle.ntriples.specs.Terms as N
use Rattle.start_element.specs.declared.Source.{Source}
use Rattle.start_element.specs.declared.Source.TheVariants.{Made}
use Rattle.start_element.specs.Element.{is_blank, text_of, maybe, node_is, Fitting}
use Rattle.start_element.specs.Laws.{CountedBy, is_outer, stands_in}
use Rattle.start_plan.specs.declared.Given.{Given}
use Rattle.start_plan.specs.declared.Plan.{Plan}
use Rattle.start_plan.specs.declared.Start.{Start}
use Rattle.start_plan.specs.Plan.{object_in, default_plan, held_plan, resource_plan}
use Rattle.start_plan.specs.Says.{Says, object-subject, no_object_lem}
use Rattle.start_plan.specs.Does.{Does, lacking_object, does_collection, does_literal, does_other, does_resource, does_default}
use Rattle.start_plan.specs.Goes.{told, main_of, object_of, property_of}
use Rattle.start_tag.specs.declared.reading.Tag.{Tag}
use Rattle.start_tag.specs.Giving as G
use Rattle.start_tag.specs.Giving.{made_at, is_missing, made_there, Gives, shorts, Keeps, given-says, iri_says}
use Rattle.start_form.specs.Order.{production_in}
use Rattle.start_tag.specs.Names.{iri_text, property-name, li-name}
use Rattle.start_tag.specs.Made.{short_if}
use Rattle.start_tag.specs.Rules.{is_reserved, property-free}
use Rattle.start_tag.specs.Packets as K
use Rattle.start_tag.specs.Packets.{part-few}
use Rattle.start_tag.specs.Remembered.{top_is_frame, noted_so}
use Rattle.start_tag.specs.Judges.{Known, Waits, Drafted, Measurable, start_by, text_of_lem, reserved_stops, broken_stops, production_stops, long_stops, waits}
use Rattle.start_tag.specs.Nodes.{Ready, refused_good, label-made}
use Rattle.std.specs.Prelude.{Result, Ok, Err}

-- ---- what is made of a property

-- by its rdf:parseType; u: has it property attributes?
abbrev pub property_plan : ParseType → Given → Source → Bool → ℕ → Plan
property_plan parse.Absent g p u n = default_plan g p u n
property_plan parse.Collection g p u n = held_plan ParseTypeCollectionPropertyElt g p n
property_plan parse.Resource g p u n = resource_plan g n
property_plan parse.Literal g p u n = held_plan ParseTypeLiteralPropertyElt g p n
property_plan parse.Other g p u n = held_plan ParseTypeOtherPropertyElt g p n

-- none is the wrapper
no_wrapper : (q : ParseType) (g : Given) (p : Source) (u : Bool) (n : ℕ) → is_outer (property_plan q g p u n).parts.kind ≡ false
no_wrapper parse.Absent g p u n = refl
no_wrapper parse.Collection g p u n = refl
no_wrapper parse.Resource g p u n = refl
no_wrapper parse.Literal g p u n = refl
no_wrapper parse.Other g p u n = refl

-- takes: is a label made for it? c: how many rdf:li its node has had
pub record MakesProperty (x : Start) (t : Tag) (q : ParseType) (takes li : Bool) (c labels : ℕ) (e v : List ℕ) (k : ℕ) (a b : List ℕ) : Type 0 where
  pub parts : Given
  pub gives : Gives t v k parts
  pub property : Source
  pub is : x ≡ start_by (property_plan q parts property t.properties (pick takes (labels + 1) labels)) t li true property
  pub keeps : Keeps a b
  pub number : li ≡ true → text_of property e b ≡ rdf "_" ++ decimal (c + 1)
  pub own : li ≡ false → property ≡ made_at 5120 t.iri
  pub labelled : takes ≡ true → part b 6144 12 ≡ label (suc labels)

-- what a plan has of what was given
base_of_lem : (q : ParseType) (g : Given) (s : Source) (u : Bool) (n : ℕ) → (property_plan q g s u n).parts.base ≡ g.base
base_of_lem parse.Absent g s u n = refl
base_of_lem parse.Collection g s u n = refl
base_of_lem parse.Resource g s u n = refl
base_of_lem parse.Literal g s u n = refl
base_of_lem parse.Other g s u n = refl

tag_of_lem : (q : ParseType) (g : Given) (s : Source) (u : Bool) (n : ℕ) → (property_plan q g s u n).parts.tag ≡ g.tag
tag_of_lem parse.Absent g s u n = refl
tag_of_lem parse.Collection g s u n = refl
tag_of_lem parse.Resource g s u n = refl
tag_of_lem parse.Literal g s u n = refl
tag_of_lem parse.Other g s u n = refl

labels_of : (q : ParseType) (g : Given) (s : Source) (u : Bool) (n : ℕ) → (property_plan q g s u n).labels ≡ n
labels_of parse.Absent g s u n = refl
labels_of parse.Collection g s u n = refl
labels_of parse.Resource g s u n = refl
labels_of parse.Literal g s u n = refl
labels_of parse.Other g s u n = refl

fitting_of : (q : ParseType) (g : Given) (s : Source) (u : Bool) (n : ℕ) → Fitting (property_plan q g s u n).parts
fitting_of parse.Absent g s u n = record { lacks = lacking_object g u }
fitting_of parse.Collection g s u n = record { lacks = (refl, refl) }
fitting_of parse.Resource g s u n = record { lacks = (refl, refl, refl) }
fitting_of parse.Literal g s u n = record { lacks = (refl, refl) }
fitting_of parse.Other g s u n = record { lacks = (refl, refl) }

-- a label is left, a number is left
pub label-left : {reserved li : Bool} {c : ℕ} {p : ParseType} {resource node_id properties : Bool} {n : ℕ} {j : Result Unit Refusal} → PropertyJudged reserved li c p resource node_id properties n j → j ≡ Ok tt
    → takes_label (parse_type_is p) resource node_id properties ≡ true → n < 99_999_999
unfolding most_labels
label-left jg h u = jg.left h u

pub li-left : {reserved li : Bool} {c : ℕ} {p : ParseType} {resource node_id properties : Bool} {n : ℕ} {j : Result Unit Refusal} → PropertyJudged reserved li c p resource node_id properties n j → j ≡ Ok tt
    → li ≡ true → c < 99_999_999
unfolding most_labels
li-left jg h u = jg.numbers h u

at_most_lem : (t : Bool) {n : ℕ} → n ≤ 99_999_999 → (t ≡ true → n < 99_999_999) → pick t (n + 1) n ≤ 99_999_999
at_most_lem true l f = let z = f refl in omega arith
at_most_lem false l f = l

-- what is there where neither of two is
without : (x y u : Bool) → (x || y || u) ≡ true → x ≡ false → y ≡ false → u ≡ true
without x y u h p q = rw (p, q) at h

number_short : (c : ℕ) → length (rdf "_" ++ decimal (c + 1)) ≤ 64
unfolding F.all
number_short c = omega (arith, length-append (rdf "_") (decimal (c + 1)), length-decimal (c + 1))

-- ---- judged

pub record JudgesProperty (q : Result Start Refusal) (t : Tag) (r : Registers) (fs w e v : List ℕ) (k : ℕ) (a b : List ℕ) : Type 0 where
  pub cases : (ids used m : ℕ) (bs is ia il st cs rs : List ℕ) (y : Known t r ids used fs bs is w ia il st e v m k cs rs a) → (top_frame r fs).kind ≡ NodeElt → r.counts.depth ≤ 64 → length fs ≡ TABLE
      → D.place_in (elements_of r fs bs is w) ≡ D.properties (subject_below fs w r.counts.depth) (count (top_frame r fs))
      → Drafted q r ids used fs bs is w ia il st e v m k cs rs b
  pub measurable : Measurable q
  pub same : length b ≡ length a

-- rdf:Description is no property
not_description : (i : Bytes) → may_be_property i ≡ true → same i (rdf "Description") ≡ false
unfolding F.all
not_description i h = go (same i (rdf "Description")) refl
  where
    go : (t : Bool) → same i (rdf "Description") ≡ t → same i (rdf "Description") ≡ false
    go true q = absurd (false≢true (sym (ap may_be_property (same_true i (rdf "Description") q)) ∙ h))
    go false q = q

good_property : (t : S.Tag) (s : Subject) (c n : ℕ) {o : Opened} → open_property t s c n ≡ good o → may_be_property t.iri ≡ true
unfolding open_property ◌>>◌ require◌or◌
good_property t s c n {o} h = go (may_be_property t.iri) refl
  where
    go : (u : Bool) → may_be_property t.iri ≡ u → may_be_property t.iri ≡ true
    go true q = q
    go false q = absurd (refused_good Reserved o (sym (rw q) ∙ h))

value-given : (e v : List ℕ) (k j : ℕ) → value_if e v k j ≡ given (ltb j k) (value_at e v j)
unfolding value_if
value-given e v k j = refl

given-same : (t : Bool) (s : Bytes) → given t s ≡ N.id_of t s
unfolding given N.id_of
given-same true s = refl
given-same false s = refl

-- what stands in a node is nothing else to a packet
property-part : (o : Bool) (s : Subject) (li : ℕ) (i : Bytes) → ordinary ≡ new_part o (D.properties s li) i
unfolding new_part
property-part false s li i = refl
property-part true s li i = refl

reserved_property : (t : S.Tag) (s : Subject) (c n : ℕ) → may_be_property t.iri ≡ false → open_property t s c n ≡ refuse Reserved
unfolding open_property ◌>>◌ require◌or◌
reserved_property t s c n h = rw h

-- i: the element's name as it was read
module _ {t : Tag} {r : Registers} {fs w e v : List ℕ} {k : ℕ} {a : List ℕ} {i : Bytes} {reserved : Bool} (ip : i ≡ iri_text t.iri a) (rp : reserved ≡ not (may_be_property i)) where
  named_so : {ids used m : ℕ} {bs is ia il st cs rs : List ℕ} (y : Known t r ids used fs bs is w ia il st e v m k cs rs a) → reserved ≡ not (may_be_property y.tells.is.iri)
  named_so y = rp ∙ ap (λ (x : Bytes). not (may_be_property x)) ip ∙ ap not (property-name a y.tells.is.iri t.iri y.tells.iri)

  -- the production of the place
  produced : {ids used m : ℕ} {bs is ia il st cs rs : List ℕ} (y : Known t r ids used fs bs is w ia il st e v m k cs rs a)
      → D.place_in (elements_of r fs bs is w) ≡ D.properties (subject_below fs w r.counts.depth) (count (top_frame r fs))
      → production_in (D.place_in (elements_of r fs bs is w)) y.tells.is r.counts.labels ≡ open_property y.tells.is (subject_below fs w r.counts.depth) (count (top_frame r fs)) r.counts.labels
  unfolding production_in
  produced y h = rw h

  -- 14
  pub property_reserved_here : reserved ≡ true → JudgesProperty (Err Reserved) t r fs w e v k a a
  property_reserved_here h =
      record {
        cases = λ ids used m bs is ia il st cs rs y kd dp fw at.
            reserved_stops y (produced y at ∙ reserved_property y.tells.is (subject_below fs w r.counts.depth) (count (top_frame r fs)) r.counts.labels (not-true (may_be_property y.tells.is.iri) (sym (named_so y) ∙ h)));
        measurable = tt;
        same = refl;
      }

  module _ (rf : reserved ≡ false) {u : Bool} (kb : K.Keeps u t r fs w e v k a) where
    pub kept_is : {ids used m : ℕ} {bs is ia il st cs rs : List ℕ} (y : Known t r ids used fs bs is w ia il st e v m k cs rs a) → u ≡ X.keeps r.mode.xmp (elements_of r fs bs is w) y.tells.is
    kept_is {ids = ids} {ia = ia} {il} {st} y = kb.is (ids_of ia il st ids) y.lawful.valid y.level y.tells

    -- 19
    pub property_broken : u ≡ false → JudgesProperty (Err ProfileBroken) t r fs w e v k a a
    property_broken h =
        record {
          cases = λ ids used m bs is ia il st cs rs y kd dp fw at.
              broken_stops y (sym (kept_is y) ∙ h)
              (ap is_reserved (produced y at) ∙ property-free y.tells.is (subject_below fs w r.counts.depth) (count (top_frame r fs)) r.counts.labels (not-false (may_be_property y.tells.is.iri) (sym (named_so y) ∙ rf)));
          measurable = tt;
          same = refl;
        }

-- f: is its rdf:resource missing? u: does it keep the rules of its mode?
module _ {t : Tag} {r : Registers} {fs w e v : List ℕ} {k : ℕ} {a : List ℕ} {i : Bytes} {reserved li f u : Bool} {p : ParseType} {c : ℕ} {j : Result Unit Refusal}
    (ip : i ≡ iri_text t.iri a) (rp : reserved ≡ not (may_be_property i)) (kb : K.Keeps u t r fs w e v k a) (kt : u ≡ true) (lp : li ≡ is_li i) (fm : f ≡ is_missing t.resource)
    (pp : parse_type_is p ≡ parse_type_of (N.id_of (ltb t.parse k) (value_at e v t.parse))) (cp : c ≡ count (top_frame r fs))
    (jg : PropertyJudged reserved li c p (not f) (ltb t.node k) t.properties r.counts.labels j) where
  module _ {ids used m : ℕ} {bs is ia il st cs rs : List ℕ} (y : Known t r ids used fs bs is w ia il st e v m k cs rs a) where
    kept : X.keeps r.mode.xmp (elements_of r fs bs is w) y.tells.is ≡ true
    kept = sym (kb.is (ids_of ia il st ids) y.lawful.valid y.level y.tells) ∙ kt

    tagged : PropertyTag y.tells.is reserved li p (not f) (ltb t.node k) t.properties
    tagged =
        record {
          name = named_so ip rp y;
          numbered = lp ∙ (ap is_li ip ∙ li-name a y.tells.is.iri t.iri y.tells.iri);
          parse = pp ∙ ap parse_type_of (sym (y.tells.parse_type ∙ value-given e v k t.parse ∙ given-same (ltb t.parse k) (value_at e v t.parse)));
          has_resource = ap not fm ∙ sym (made_there a 2048 y.tells.is.resource t.resource y.tells.resource);
          has_node_id = sym (ap is_some y.tells.node_id ∙ G.value-given e v k t.node);
          has_properties = y.tells.properties;
        }

    -- the production of the place
    asked : D.place_in (elements_of r fs bs is w) ≡ D.properties (subject_below fs w r.counts.depth) (count (top_frame r fs))
        → production_in (D.place_in (elements_of r fs bs is w)) y.tells.is r.counts.labels ≡ open_property y.tells.is (subject_below fs w r.counts.depth) c r.counts.labels
    asked h = produced ip rp y h ∙ rw cp

  pub property-refused : {n : Refusal} → j ≡ Err n → JudgesProperty (Err n) t r fs w e v k a a
  property-refused {n} h =
      record {
        cases = λ ids used m bs is ia il st cs rs y kd dp fw at. production_stops y (kept y) (asked y at ∙ (jg.is y.tells.is (subject_below fs w r.counts.depth) (tagged y)
            ∙ ap (λ (x : Result Unit Refusal). said x (property_opened (parse_type_is p) y.tells.is (property_in y.tells.is (subject_below fs w r.counts.depth) c) r.counts.labels)) h));
        measurable = tt;
        same = refl;
      }

  module _ (h : j ≡ Ok tt) where
    opens : {ids used m : ℕ} {bs is ia il st cs rs : List ℕ} (y : Known t r ids used fs bs is w ia il st e v m k cs rs a)
        → D.place_in (elements_of r fs bs is w) ≡ D.properties (subject_below fs w r.counts.depth) (count (top_frame r fs))
        → production_in (D.place_in (elements_of r fs bs is w)) y.tells.is r.counts.labels
        ≡ good (property_opened (parse_type_is p) y.tells.is (property_in y.tells.is (subject_below fs w r.counts.depth) c) r.counts.labels)
    opens y at =
        asked y at ∙ (jg.is y.tells.is (subject_below fs w r.counts.depth) (tagged y)
        ∙ ap (λ (x : Result Unit Refusal). said x (property_opened (parse_type_is p) y.tells.is (property_in y.tells.is (subject_below fs w r.counts.depth) c) r.counts.labels)) h)

    pub property-long : t.short ≡ false → JudgesProperty (Err OverLimit) t r fs w e v k a a
    property-long s = record { cases = λ ids used m bs is ia il st cs rs y kd dp fw at. long_stops y (kept y) (opens y at) s; measurable = tt; same = refl }

    module _ {takes : Bool} {b : List ℕ} {x : Start} (tk : takes ≡ takes_label (parse_type_is p) (not f) (ltb t.node k) t.properties) (s : t.short ≡ true) (rd : Ready e v k a)
        (mk : MakesProperty x t p takes li c r.counts.labels e v k a b) where
      module _ {ids used m : ℕ} {bs is ia il st cs rs : List ℕ} (y : Known t r ids used fs bs is w ia il st e v m k cs rs a)
          (at : D.place_in (elements_of r fs bs is w) ≡ D.properties (subject_below fs w r.counts.depth) (count (top_frame r fs))) where
        says : Says mk.parts e b y.tells.is
        says = given-says y.tells s mk.keeps rd.event mk.gives

        -- its IRI is the property's
        is_li_lem : li ≡ is_li y.tells.is.iri
        is_li_lem = (tagged y).numbered

        written : text_of mk.property e b ≡ property_iri y.tells.is.iri (suc c)
        written = go li refl
          where
            go : (u : Bool) → li ≡ u → text_of mk.property e b ≡ property_iri y.tells.is.iri (suc c)
            go true z = mk.number z ∙ sym (li_iri y.tells.is.iri c (sym is_li_lem ∙ z))
            go false z =
                ap (λ (o : Source). text_of o e b) (mk.own z)
                ∙ (text_of_lem (made_at 5120 t.iri) e b (iri_says y.tells s mk.keeps rd.event) ∙ sym (own_iri y.tells.is.iri (suc c) (sym is_li_lem ∙ z)))

        stated : property_of (start_by (property_plan p mk.parts mk.property t.properties (pick takes (r.counts.labels + 1) r.counts.labels)) t li true mk.property) e b (subject_below fs w r.counts.depth)
            ≡ property_in y.tells.is (subject_below fs w r.counts.depth) c
        unfolding property_in
        stated = made written (ap (λ (o : Source). maybe o e b) (sym mk.gives.id) ∙ says.id)
          where
            made : {i₁ i₂ : Bytes} {x₁ x₂ : Option Bytes} → i₁ ≡ i₂ → x₁ ≡ x₂
                → ◌≡◌ {A = D.Property} (record { subject = subject_below fs w r.counts.depth; iri = i₁; id = x₁ }) (record { subject = subject_below fs w r.counts.depth; iri = i₂; id = x₂ })
            made p₁ p₂ = rw (p₁, p₂)

        -- in the definitions' words
        takes_is : takes ≡ takes_label (parse_type_is p) (is_some y.tells.is.resource) (is_some y.tells.is.node_id) t.properties
        takes_is = tk ∙ rw ((tagged y).has_resource, (tagged y).has_node_id)

        one : r.counts.labels + 1 ≡ suc r.counts.labels
        one = add-one r.counts.labels

        labelled_as : {q : ParseType} → p ≡ q → takes_label (parse_type_is q) (is_some y.tells.is.resource) (is_some y.tells.is.node_id) t.properties ≡ true → part b 6144 12 ≡ label (suc r.counts.labels)
        labelled_as z h' = mk.labelled (takes_is ∙ (ap (λ (o : ParseType). takes_label (parse_type_is o) (is_some y.tells.is.resource) (is_some y.tells.is.node_id) t.properties) z ∙ h'))

        does_as : (q : ParseType) → p ≡ q
            → Does (property_plan q mk.parts mk.property t.properties (pick (takes_label (parse_type_is q) (is_some y.tells.is.resource) (is_some y.tells.is.node_id) t.properties) (r.counts.labels + 1) r.counts.labels))
            e b (subject_below fs w r.counts.depth) (property_opened (parse_type_is q) y.tells.is (property_in y.tells.is (subject_below fs w r.counts.depth) c) r.counts.labels) ordinary
        unfolding property_in
        does_as parse.Absent z =
            rw one
            (does_default mk.parts e b (subject_below fs w r.counts.depth) says r.counts.labels mk.property (property_in y.tells.is (subject_below fs w r.counts.depth) c) refl written refl t.properties y.tells.properties
            (labelled_as z))
        does_as parse.Collection z = does_collection mk.parts e b (subject_below fs w r.counts.depth) says r.counts.labels mk.property (property_in y.tells.is (subject_below fs w r.counts.depth) c) refl written refl
        does_as parse.Resource z =
            rw one (does_resource mk.parts e b (subject_below fs w r.counts.depth) says r.counts.labels mk.property (property_in y.tells.is (subject_below fs w r.counts.depth) c) refl written refl (labelled_as z refl))
        does_as parse.Literal z = does_literal mk.parts e b (subject_below fs w r.counts.depth) says r.counts.labels mk.property (property_in y.tells.is (subject_below fs w r.counts.depth) c) refl written refl
        does_as parse.Other z = does_other mk.parts e b (subject_below fs w r.counts.depth) says r.counts.labels mk.property (property_in y.tells.is (subject_below fs w r.counts.depth) c) refl written refl

        -- what it is about is no longer than an IRI may be
        brief_iri : length (text_of mk.property e b) ≤ 1_024
        unfolding short_if most_name_bytes
        brief_iri = rw written (go (is_li y.tells.is.iri) refl)
          where
            go : (u : Bool) → is_li y.tells.is.iri ≡ u → length (property_iri y.tells.is.iri (suc c)) ≤ 1_024
            go true z = rw (li_iri y.tells.is.iri c z) (omega (arith, number_short c))
            go false z = rw (own_iri y.tells.is.iri (suc c) z) (leb-true (length y.tells.is.iri) 1_024 (shorts y.tells.is (sym y.tells.short ∙ s)).iri)

        brief_as : (q : ParseType) (n : ℕ) → length (text_of (property_plan q mk.parts mk.property t.properties n).parts.main e b) ≤ 1_024
        unfolding text_of
        brief_as parse.Absent n = brief_iri
        brief_as parse.Collection n = brief_iri
        brief_as parse.Resource n = omega (arith, part-few b 6144 12)
        brief_as parse.Literal n = brief_iri
        brief_as parse.Other n = brief_iri

        -- a default property: has it a node at once?
        default_lines : p ≡ parse.Absent → (u : Bool) → (is_some y.tells.is.resource || is_some y.tells.is.node_id || t.properties) ≡ u → (n : ℕ)
            → (property_opened no_parse_type y.tells.is (property_in y.tells.is (subject_below fs w r.counts.depth) c) r.counts.labels).lines
            ≡ told (default_plan mk.parts mk.property t.properties n).lines (node_is false (text_of mk.property e b)) (node_is (is_blank (object_in mk.parts t.properties).what) (text_of (object_in mk.parts t.properties).source e b)) y.tells.is.language y.tells.is.attributes y.tells.is.type (element_type y.tells.is.iri) (property_in y.tells.is (subject_below fs w r.counts.depth) c)
        unfolding property_opened has_node J.object_in told tag_lines when◌then◌else◌
        default_lines z true u n =
            let g = no_object_lem mk.parts says t.properties in
            rw (
              ← y.tells.properties,
              u,
              g ∙ ap not u,
              object-subject e b (label (suc r.counts.labels)) mk.parts says t.properties u (λ a' b'. labelled_as z (rw (a', b') (without (is_some y.tells.is.resource) (is_some y.tells.is.node_id) t.properties u a' b'))),
            )
        default_lines z false u n =
            let g = no_object_lem mk.parts says t.properties in
            rw (← y.tells.properties, u, g ∙ ap not u)

        -- what is carried out, with this rdf:parseType
        lines_as : (q : ParseType) → p ≡ q → (x' : Start) → x' ≡ start_by (property_plan q mk.parts mk.property t.properties (pick (takes_label (parse_type_is q) (is_some y.tells.is.resource) (is_some y.tells.is.node_id) t.properties) (r.counts.labels + 1) r.counts.labels)) t li true mk.property
            → property_of x' e b (subject_below fs w r.counts.depth) ≡ property_in y.tells.is (subject_below fs w r.counts.depth) c
            → (property_opened (parse_type_is q) y.tells.is (property_in y.tells.is (subject_below fs w r.counts.depth) c) r.counts.labels).lines
            ≡ told x'.plan.lines (main_of x' e b) (object_of x' e b) y.tells.is.language y.tells.is.attributes y.tells.is.type (element_type y.tells.is.iri) (property_in y.tells.is (subject_below fs w r.counts.depth) c)
        unfolding property_opened told node_is text_of
        lines_as parse.Absent z x' g o = rw g (default_lines z (is_some y.tells.is.resource || is_some y.tells.is.node_id || t.properties) refl r.counts.labels)
        lines_as parse.Collection z x' g o = rw g
        lines_as parse.Resource z x' g o = rw (g, labelled_as z refl)
        lines_as parse.Literal z x' g o = rw g
        lines_as parse.Other z x' g o = rw g

        drafted : (top_frame r fs).kind ≡ NodeElt → r.counts.depth ≤ 64 → length fs ≡ TABLE → Waits x r ids used fs bs is w ia il st e v m k cs rs b
        drafted kd dp fw =
            rw is_so
            (waits y (kept y) (opens y at) s mk.keeps rd.event mk.gives (base_of_lem p mk.parts mk.property t.properties _) (tag_of_lem p mk.parts mk.property t.properties _)
            (rw (at, ← property-part r.mode.xmp (subject_below fs w r.counts.depth) (count (top_frame r fs)) y.tells.is.iri) (does_as p refl)) li true mk.property
            (record {
              typed = sym (ap not (not_description y.tells.is.iri (good_property y.tells.is (subject_below fs w r.counts.depth) c r.counts.labels (sym (asked y at) ∙ opens y at))));
              counted = counted_so;
              noted =
                  noted_so y.tells.is li (text_of the_plan.parts.main e b)
                  (ap is_said (tag_of_lem p mk.parts mk.property t.properties _) ∙ (sym (carries_by_lem mk.parts.tag b) ∙ ap carries says.tag))
                  y.lawful.valid y.level counted_so in_node_lem r.mode.xmp (kept y);
              brief = λ z. main_brief;
              numbered = λ u. inl (record { kind = kd; few = numbers u });
              few = few_labels;
              stood = stands_in r fs kd dp fw the_plan.parts.kind (no_wrapper p mk.parts mk.property t.properties _);
              lines =
                  lines_as p refl (start_by the_plan t li true mk.property) refl stated
                  ∙ ap (told the_plan.lines (main_of (start_by the_plan t li true mk.property) e b) (object_of (start_by the_plan t li true mk.property) e b) y.tells.is.language y.tells.is.attributes y.tells.is.type (element_type y.tells.is.iri)) (sym stated);
            }))
          where
            -- the plan, in the definitions' words
            the_plan : Plan
            the_plan = property_plan p mk.parts mk.property t.properties (pick (takes_label (parse_type_is p) (is_some y.tells.is.resource) (is_some y.tells.is.node_id) t.properties) (r.counts.labels + 1) r.counts.labels)

            is_so : x ≡ start_by the_plan t li true mk.property
            is_so = mk.is ∙ ap (λ (u : Bool). start_by (property_plan p mk.parts mk.property t.properties (pick u (r.counts.labels + 1) r.counts.labels)) t li true mk.property) takes_is

            counted_so : CountedBy r fs y.tells.is.iri li
            counted_so = record { node = λ _. sym is_li_lem; wraps = λ q. absurd (false≢true (sym (ap (λ (g : Kind). same_kind g Wrapper) kd) ∙ q)) }

            -- the element around is no rdf:RDF
            in_node_lem : (n : ℕ) → r.counts.depth ≡ suc n → same_kind (frame_at fs n).kind Rdf ≡ true → (x : Bytes) → y.tells.is.about ≡ some x → text_of the_plan.parts.main e b ≡ x
            in_node_lem n d h x q =
                let f : (frame_at fs n).kind ≡ NodeElt = ap (λ (g : Frame). g.kind) (sym (top_is_frame r fs n d (omega (arith, dp, fw, d)))) ∙ kd in
                absurd (false≢true (sym (ap (λ (g : Kind). same_kind g Rdf) f) ∙ h))

            main_brief : length (text_of the_plan.parts.main e b) ≤ 1_024
            main_brief = brief_as p _

            numbers : li ≡ true → count (top_frame r fs) < 99_999_999
            numbers u = rw (← cp) (li-left jg h u)

            few_labels : the_plan.labels ≤ 99_999_999
            few_labels = rw (labels_of p mk.parts mk.property t.properties (pick (takes_label (parse_type_is p) (is_some y.tells.is.resource) (is_some y.tells.is.node_id) t.properties) (r.counts.labels + 1) r.counts.labels))
                (at_most_lem (takes_label (parse_type_is p) (is_some y.tells.is.resource) (is_some y.tells.is.node_id) t.properties) y.lawful.valid.labels (λ u. label-left jg h (sym (sym takes_is ∙ tk) ∙ u)))

      pub property_judged : JudgesProperty (Ok x) t r fs w e v k a b
      property_judged =
          record {
            cases = λ ids used m bs is ia il st cs rs y kd dp fw at. drafted y at kd dp fw;
            measurable = rw mk.is (fitting_of p mk.parts mk.property t.properties _);
            same = mk.keeps.same;
          }

-- the arms of `property_plan`
module _ {q : ParseType} (g : Given) (s : Source) (u : Bool) (n : ℕ) {p : Plan} where
  pub plan_absent : q ≡ parse.Absent → p ≡ default_plan g s u n → p ≡ property_plan q g s u n
  plan_absent h e = e ∙ rw h

  pub plan_collection : q ≡ parse.Collection → p ≡ held_plan ParseTypeCollectionPropertyElt g s n → p ≡ property_plan q g s u n
  plan_collection h e = e ∙ rw h

  pub plan_resource : q ≡ parse.Resource → p ≡ resource_plan g n → p ≡ property_plan q g s u n
  plan_resource h e = e ∙ rw h

  pub plan_literal : q ≡ parse.Literal → p ≡ held_plan ParseTypeLiteralPropertyElt g s n → p ≡ property_plan q g s u n
  plan_literal h e = e ∙ rw h

  pub plan_other : q ≡ parse.Other → p ≡ held_plan ParseTypeOtherPropertyElt g s n → p ≡ property_plan q g s u n
  plan_other h e = e ∙ rw h

-- ---- what the calls make

-- `label_if`
pub record Labels (takes : Bool) (n : ℕ) (a b : List ℕ) (m : ℕ) : Type 0 where
  pub is : m ≡ pick takes (n + 1) n
  pub made : takes ≡ true → Wrote a b 6144 6156 (label (n + 1))
  pub before : Kept a b 0 6144
  pub behind : Kept a b 6224 (length a)
  pub same : length b ≡ length a

pub no_label : {takes : Bool} {n : ℕ} {a : List ℕ} → takes ≡ false → Labels takes n a a n
no_label h = record { is = rw h; made = λ u. absurd (false≢true (sym h ∙ u)); before = kept_all; behind = kept_all; same = refl }

pub one_label : {takes : Bool} {n m : ℕ} {a b : List ℕ} → takes ≡ true → (m ≡ n + 1) × Wrote a b 6144 (6144 + 12) (label (n + 1)) → Labels takes n a b m
one_label {a = a} h w = record { is = w.0 ∙ rw h; made = λ u. w.1; before = kept_before w.1; behind = kept_less (kept_behind (length a) w.1) (omega arith) (omega arith); same = wrote_same w.1 }

-- `numbered`
pub record Numbers (li : Bool) (c : ℕ) (i : Reference) (a b : List ℕ) (s : Source) : Type 0 where
  pub number : li ≡ true → (e : List ℕ) → text_of s e b ≡ rdf "_" ++ decimal (c + 1)
  pub own : li ≡ false → s ≡ made_at 5120 i
  pub before : Kept a b 0 6160
  pub behind : Kept a b 6224 (length a)
  pub same : length b ≡ length a

pub not_numbered : {li : Bool} {c : ℕ} (i : Reference) {a : List ℕ} {s : Source} → li ≡ false → s ≡ made_at 5120 i → Numbers li c i a a s
not_numbered i h q = record { number = λ u. absurd (false≢true (sym h ∙ u)); own = λ u. q; before = kept_all; behind = kept_all; same = refl }

pub is_numbered : {li : Bool} {c n : ℕ} (i : Reference) {a b : List ℕ} → li ≡ true → Wrote a b 6160 (6160 + n) (rdf "_" ++ decimal (c + 1)) → Numbers li c i a b (Made 6160 n)
unfolding text_of
is_numbered {c = c} {n = n} i {a} {b} h w =
    let l : n ≡ length (rdf "_" ++ decimal (c + 1)) = omega (arith, w.up) in
    record {
      number = λ u e. rw l (wrote_part w);
      own = λ u. absurd (false≢true (sym u ∙ h));
      before = kept_before w;
      behind = kept_less (kept_behind (length a) w) (omega (arith, number_short c, l)) (omega arith);
      same = wrote_same w;
    }

-- `make_property`
pub record Left (takes li : Bool) (labels c : ℕ) : Type 0 where
  pub label : takes ≡ true → labels < 99_999_999
  pub number : li ≡ true → c < 99_999_999

pub labels_asks : {e v : List ℕ} {k : ℕ} {a : List ℕ} {takes li : Bool} {n c : ℕ} → Ready e v k a → Left takes li n c → (most_held_bytes ≤ length a) × (takes ≡ true → n < most_labels)
unfolding most_labels
labels_asks rd l = (rd.room, l.label)

pub numbers_asks : {e v : List ℕ} {k : ℕ} {a d : List ℕ} {takes li : Bool} {n c m : ℕ} → Ready e v k a → Left takes li n c → Labels takes n a d m → (most_held_bytes ≤ length d) × (li ≡ true → c < most_labels)
unfolding most_labels
numbers_asks rd l lb = (omega (arith, rd.room, lb.same), l.number)

pub parse_read : (e v : List ℕ) (b : Bool) (j : ℕ) {p : O.ParseType} {x : Bytes} → p ≡ parse_type_of (N.id_of b x) → x ≡ value_at e v j → p ≡ parse_type_of (N.id_of b (value_at e v j))
parse_read e v b j h q = h ∙ ap (λ (y : Bytes). parse_type_of (N.id_of b y)) q

pub both_left : {reserved li : Bool} {c : ℕ} {p : ParseType} {resource node_id properties takes : Bool} {n : ℕ} {j : Result Unit Refusal} → PropertyJudged reserved li c p resource node_id properties n j → j ≡ Ok tt
    → takes ≡ takes_label (parse_type_is p) resource node_id properties → Left takes li n c
both_left jg h tk = record { label = λ u. label-left jg h (sym tk ∙ u); number = λ u. li-left jg h u }

pub property-made : {x : Start} {t : Tag} {q : ParseType} {takes li : Bool} {c labels n : ℕ} {e v : List ℕ} {k : ℕ} {a d b : List ℕ} {g : Given} {s : Source} {p : Plan} → Ready e v k a
    → Labels takes labels a d n → Numbers li c t.iri d b s → Gives t v k g → p ≡ property_plan q g s t.properties n → x ≡ start_by p t li true s
    → MakesProperty x t q takes li c labels e v k a b
property-made {t = t} {q = q} {li = li} {labels = labels} {e = e} {a = a} {g = g} {s = s} rd lb nu gv pp h =
    record {
      parts = g;
      gives = gv;
      property = s;
      is = h ∙ ap (λ (y : Plan). start_by y t li true s) (pp ∙ ap (property_plan q g s t.properties) lb.is);
      keeps = record {
        before = kept_then lb.before (kept_less nu.before (omega arith) (omega arith));
        behind = kept_then lb.behind (kept_less nu.behind (omega arith) (omega (arith, lb.same)));
        same = nu.same ∙ lb.same;
        room = rd.room;
      };
      number = λ u. nu.number u e;
      own = nu.own;
      labelled = λ u. nu.before.parts 6144 12 (omega arith) (omega arith) ∙ label-made labels (lb.made u);
    }
