-- Refusals 14, 15 and 18, by which attributes there are; what a start tag then opens.
use Rattle.std.specs.Prelude.{◌≡◌, Bool, true, false, ◌&&◌, ◌||◌, not, [], ◌++◌, ℕ, suc, ◌<◌, ltb, leb}
use Rattle.std.proofs.Math.Path.{refl}
use Rattle.std.proofs.Common.{sym, ◌∙◌, arith, ltb-true, ltb-false, le-leb}
use Rattle.std.proofs.Math.Bool.{not-not}
use Rattle.std.proofs.lemmas.Bool.{false≢true, lt-leb, not-true, not-false}
use Rattle.std.proofs.Math.Option.{Option, none, some}
use Rattle.spec.specs.Bytes.{Bytes, ascii, when◌then◌else◌, same, is_empty, is_some, or_else, ◌>>=◌, ◌>>◌, require◌or◌}
use Rattle.spec.specs.Numbers.{Answer, refuse, good}
use Rattle.spec.specs.declared.Refusal.{Refusal}
use Rattle.spec.specs.declared.Refusal.TheVariants.{LabelsSpent, Reserved, TwoNames}
use Rattle.spec.specs.Limits.{most_labels}
use Rattle.spec.specs.Rdf.{rdf, may_be_node, may_be_property}
use Rattle.spec.specs.NTriples.{Subject, named, blank, node, label}
use Rattle.spec.specs.Document.{no_object, node_object, default, collection, literal, other, Property, rdf_rdf, node_element, property_element}
use Rattle.spec.specs.StartTag.{Tag}
use Rattle.spec.specs.Productions.{Opened, type_line, tag_lines, statement, one_more, two_of, subject_of, element_type, open_node, no_parse_type, as_collection, as_resource, as_literal, as_other, parse_type_of, has_node, object_of, open_with_node, open_default, open_resource, open_with, open_as, two_objects, is_li, property_iri, open_property, open_root}
use Rattle.spec.specs.Productions as O
use Rattle.ntriples.specs.Terms.{id_of as given}
use Rattle.start_attributes.specs.Judgment.{said}
use Rattle.start_rules.specs.declared.ParseType.{ParseType}
use Rattle.start_rules.specs.declared.ParseType.TheVariants as parse
use Rattle.std.specs.Prelude.{Result, Ok, Err}

-- ---- the values of rdf:parseType

abbrev pub parse_type_is : ParseType → O.ParseType
parse_type_is parse.Absent = no_parse_type
parse_type_is parse.Collection = as_collection
parse_type_is parse.Resource = as_resource
parse_type_is parse.Literal = as_literal
parse_type_is parse.Other = as_other

-- the tests of `parse_type_of`
module _ (v : Bytes) where
  pub parse_absent : {there : Bool} → there ≡ false → no_parse_type ≡ parse_type_of (given there v)
  unfolding given parse_type_of
  parse_absent h = rw h

  module _ {there : Bool} (h : there ≡ true) where
    pub parse_collection : same v (ascii "Collection") ≡ true → as_collection ≡ parse_type_of (given there v)
    unfolding given parse_type_of when◌then◌else◌
    parse_collection a = rw (h, a)

    module _ (a : same v (ascii "Collection") ≡ false) where
      pub parse_resource : same v (ascii "Resource") ≡ true → as_resource ≡ parse_type_of (given there v)
      unfolding given parse_type_of when◌then◌else◌
      parse_resource b = rw (h, a, b)

      module _ (b : same v (ascii "Resource") ≡ false) where
        pub parse-literal : same v (ascii "Literal") ≡ true → as_literal ≡ parse_type_of (given there v)
        unfolding given parse_type_of when◌then◌else◌
        parse-literal c = rw (h, a, b, c)

        pub parse-other : same v (ascii "Literal") ≡ false → as_other ≡ parse_type_of (given there v)
        unfolding given parse_type_of when◌then◌else◌
        parse-other c = rw (h, a, b, c)

-- ---- what is refused, and what is opened else

refused_by : (m : Bool) {r : Bool} → r ≡ not m → r ≡ true → m ≡ false
refused_by m e h = not-true m (sym e ∙ h)

passed_by : (m : Bool) {r : Bool} → r ≡ not m → r ≡ false → m ≡ true
passed_by m e h = not-false m (sym e ∙ h)

-- 18, where one more is asked for
one-spent : (n : ℕ) → not (ltb n most_labels) ≡ true → one_more n ≡ refuse LabelsSpent
unfolding one_more require◌or◌
one-spent n h = rw (not-true (ltb n most_labels) h)

one_left : (n : ℕ) → not (ltb n most_labels) ≡ false → one_more n ≡ good tt
unfolding one_more require◌or◌
one_left n h = rw (not-false (ltb n most_labels) h)

asked_spent : (a : Bool) (n : ℕ) → (a && not (ltb n most_labels)) ≡ true → (when a then one_more n else good tt) ≡ refuse LabelsSpent
unfolding when◌then◌else◌
asked_spent true n h = one-spent n h
asked_spent false n h = absurd (false≢true h)

asked_left : (a : Bool) (n : ℕ) → (a && not (ltb n most_labels)) ≡ false → (when a then one_more n else good tt) ≡ good tt
unfolding when◌then◌else◌
asked_left true n h = one_left n h
asked_left false n h = refl

-- the test of `spent`
pub spent_by : {a : Bool} (n : ℕ) → a ≡ true → leb 99_999_999 n ≡ (a && not (ltb n most_labels))
unfolding most_labels
spent_by n h = rw h (go (ltb n 99_999_999) refl)
  where
    go : (t : Bool) → ltb n 99_999_999 ≡ t → leb 99_999_999 n ≡ not t
    go true e = lt-leb 99_999_999 n (ltb-true n 99_999_999 e)
    go false e = le-leb 99_999_999 n (ltb-false n 99_999_999 e)

below : {a : Bool} (n : ℕ) → (a && not (ltb n most_labels)) ≡ false → a ≡ true → n < most_labels
below {a} n h e = ltb-true n most_labels (not-false (ltb n most_labels) (rw e at h))

-- ---- node elements

-- two of rdf:ID, rdf:nodeID and rdf:about
abbrev pub two_of_three : Bool → Bool → Bool → Bool
two_of_three a b c = (a && b) || (a && c) || (b && c)

-- what `judge_node` is told of a start tag
pub record NodeTag (t : Tag) (reserved id node_id about : Bool) : Type 0 where
  pub name : reserved ≡ not (may_be_node t.iri)
  pub has_id : id ≡ is_some t.id
  pub has_node_id : node_id ≡ is_some t.node_id
  pub has_about : about ≡ is_some t.about

-- its subject, where n labels are generated by now
unfoldable pub node_subject : Tag → ℕ → Subject
node_subject t n = subject_of (or_else t.id t.about) t.node_id (label (suc n))

unfoldable pub node_opened : Tag → ℕ → Opened
node_opened t n =
    record { lines = tag_lines (node_subject t n) t ++ type_line (node_subject t n) (element_type t.iri); kind = node_element (node_subject t n) 0; labels = suc n }

-- what `judge_node` answers
pub record NodeJudged (reserved id node_id about : Bool) (n : ℕ) (r : Result Unit Refusal) : Type 0 where
  pub is : (t : Tag) → NodeTag t reserved id node_id about → open_node t n ≡ said r (node_opened t n)
  pub left : r ≡ Ok tt → n < most_labels

stop_good : {x : Refusal} → ◌≡◌ {A = Result (Unit {0}) Refusal} (Err x) (Ok tt) → ⊥
stop_good e = let z : ◌≡◌ {A = ℕ} 0 1 = cc in omega arith

two_said : {t : Tag} {reserved id node_id about : Bool} → NodeTag t reserved id node_id about → two_of t.id t.node_id t.about ≡ two_of_three id node_id about
unfolding two_of
two_said k = rw (k.has_id, k.has_node_id, k.has_about)

node_rules : (t : Tag) (n : ℕ)
    → open_node t n ≡ ((require may_be_node t.iri or Reserved) >> ((require not (two_of t.id t.node_id t.about) or TwoNames) >> (one_more n >> good (node_opened t n))))
unfolding open_node node_opened node_subject
node_rules t n = refl

-- the tests of `judge_node`
module _ {reserved id node_id about : Bool} {n : ℕ} where
  pub node_reserved : reserved ≡ true → NodeJudged reserved id node_id about n (Err Reserved)
  unfolding ◌>>◌ require◌or◌
  node_reserved h = record { is = λ t k. node_rules t n ∙ rw (refused_by (may_be_node t.iri) k.name h); left = λ e. absurd (stop_good e) }

  module _ (h : reserved ≡ false) where
    pub node-two : two_of_three id node_id about ≡ true → NodeJudged reserved id node_id about n (Err TwoNames)
    unfolding ◌>>◌ require◌or◌ two_of
    node-two w = record { is = λ t k. node_rules t n ∙ rw (passed_by (may_be_node t.iri) k.name h, two_said k, w); left = λ e. absurd (stop_good e) }

    module _ (w : two_of_three id node_id about ≡ false) where
      pub node-spent : (true && not (ltb n most_labels)) ≡ true → NodeJudged reserved id node_id about n (Err LabelsSpent)
      unfolding ◌>>◌ require◌or◌
      node-spent m = record { is = λ t k. node_rules t n ∙ rw (passed_by (may_be_node t.iri) k.name h, two_said k, w, one-spent n m); left = λ e. absurd (stop_good e) }

      pub node_good : (true && not (ltb n most_labels)) ≡ false → NodeJudged reserved id node_id about n (Ok tt)
      unfolding ◌>>◌ require◌or◌
      node_good m = record { is = λ t k. node_rules t n ∙ rw (passed_by (may_be_node t.iri) k.name h, two_said k, w, one_left n m); left = λ e. below n m refl }

-- 7.2.8: the root is rdf:RDF, or a node element
pub root-rdf : (t : Tag) (n : ℕ) → same t.iri (rdf "RDF") ≡ true → open_root t n ≡ good (record { lines = []; kind = rdf_rdf; labels = n })
unfolding open_root when◌then◌else◌
root-rdf t n h = rw h

pub root-node : (t : Tag) (n : ℕ) → same t.iri (rdf "RDF") ≡ false → open_root t n ≡ open_node t n
unfolding open_root when◌then◌else◌
root-node t n h = rw h

-- ---- property elements

-- rdf:resource and rdf:nodeID on a default property
abbrev pub two_objects_by : O.ParseType → Bool → Bool → Bool
two_objects_by no_parse_type resource node_id = resource && node_id
two_objects_by as_collection resource node_id = false
two_objects_by as_resource resource node_id = false
two_objects_by as_literal resource node_id = false
two_objects_by as_other resource node_id = false

-- is a label generated at once: for the node of a Resource, or for an object that has property attributes and no name?
abbrev pub takes_label : O.ParseType → Bool → Bool → Bool → Bool
takes_label no_parse_type resource node_id properties = not resource && (not node_id && properties)
takes_label as_collection resource node_id properties = false
takes_label as_resource resource node_id properties = true
takes_label as_literal resource node_id properties = false
takes_label as_other resource node_id properties = false

-- what `judge_property` is told of a start tag
pub record PropertyTag (t : Tag) (reserved li : Bool) (p : ParseType) (resource node_id properties : Bool) : Type 0 where
  pub name : reserved ≡ not (may_be_property t.iri)
  pub numbered : li ≡ is_li t.iri
  pub parse : parse_type_is p ≡ parse_type_of t.parse_type
  pub has_resource : resource ≡ is_some t.resource
  pub has_node_id : node_id ≡ is_some t.node_id
  pub has_properties : properties ≡ not (is_empty t.attributes)

-- the property, in a node with subject s that has had li rdf:li
unfoldable pub property_in : Tag → Subject → ℕ → Property
property_in t s li = record { subject = s; iri = property_iri t.iri (suc li); id = t.id }

-- the object of a default property that has one at once, where n labels are generated by now
unfoldable pub object_in : Tag → ℕ → Subject
object_in t n = subject_of t.resource t.node_id (label (suc n))

unfoldable pub labels_behind : Option Bytes → Option Bytes → ℕ → ℕ
labels_behind (some r) l n = n
labels_behind none (some l) n = n
labels_behind none none n = suc n

unfoldable pub property_opened : O.ParseType → Tag → Property → ℕ → Opened
property_opened no_parse_type t p n =
    when has_node t then
    record { lines = tag_lines (object_in t n) t; kind = property_element p (default t.datatype (node_object (object_in t n))); labels = labels_behind t.resource t.node_id n } else
    record { lines = []; kind = property_element p (default t.datatype no_object); labels = n }
property_opened as_collection t p n = record { lines = []; kind = property_element p (collection []); labels = n }
property_opened as_resource t p n = record { lines = statement p (node (blank (label (suc n)))); kind = node_element (blank (label (suc n))) 0; labels = suc n }
property_opened as_literal t p n = record { lines = []; kind = property_element p (literal []); labels = n }
property_opened as_other t p n = record { lines = []; kind = property_element p other; labels = n }

-- what `judge_property` answers
pub record PropertyJudged (reserved li : Bool) (count : ℕ) (p : ParseType) (resource node_id properties : Bool) (n : ℕ) (r : Result Unit Refusal) : Type 0 where
  pub is : (t : Tag) (s : Subject) → PropertyTag t reserved li p resource node_id properties
      → open_property t s count n ≡ said r (property_opened (parse_type_is p) t (property_in t s count) n)
  pub numbers : r ≡ Ok tt → li ≡ true → count < most_labels
  pub left : r ≡ Ok tt → takes_label (parse_type_is p) resource node_id properties ≡ true → n < most_labels

-- an rdf:parseType that is there is never none
some-parse : (v : Bytes) (a b : Bool) → two_objects_by (parse_type_of (some v)) a b ≡ false
unfolding parse_type_of when◌then◌else◌
some-parse v a b = go (same v (ascii "Collection")) (same v (ascii "Resource")) (same v (ascii "Literal"))
  where
    go : (x y z : Bool) → two_objects_by (when x then as_collection else when y then as_resource else when z then as_literal else as_other) a b ≡ false
    go true y z = refl
    go false true z = refl
    go false false true = refl
    go false false false = refl

two-objects : (o : Option Bytes) (a b : Bool) → (not (is_some o) && (a && b)) ≡ two_objects_by (parse_type_of o) a b
unfolding is_some parse_type_of
two-objects none a b = refl
two-objects (some v) a b = sym (some-parse v a b)

then_bind : {A B C : Type 0} (a : Answer A) (y : B) (f : B → Answer C) → ((a >> good y) >>= f) ≡ (a >> f y)
unfolding ◌>>=◌ ◌>>◌
then_bind (refuse r) y f = refl
then_bind (good x) y f = refl

-- 18 is asked for where a label is generated
default_labels : (t : Tag) (p : Property) (n : ℕ) (r l : Option Bytes) (x : Bool) → t.resource ≡ r → t.node_id ≡ l → is_empty t.attributes ≡ x
    → open_default t p n ≡ ((when takes_label no_parse_type (is_some r) (is_some l) (not x) then one_more n else good tt) >> good (property_opened no_parse_type t p n))
unfolding open_default open_with_node has_node object_of property_opened object_in labels_behind subject_of is_some when◌then◌else◌ ◌>>=◌ ◌>>◌
default_labels t p n (some i) l x e f g = rw e
default_labels t p n none (some i) x e f g = rw (e, f)
default_labels t p n none none true e f g = rw (e, f, g)
default_labels t p n none none false e f g = rw (e, f, g) (then_bind (one_more n) _ _)

as_labels : (q : O.ParseType) (t : Tag) (p : Property) (n : ℕ)
    → open_as q t p n ≡ ((when takes_label q (is_some t.resource) (is_some t.node_id) (not (is_empty t.attributes)) then one_more n else good tt) >> good (property_opened q t p n))
unfolding open_as open_with open_resource property_opened when◌then◌else◌ ◌>>◌
as_labels no_parse_type t p n = default_labels t p n t.resource t.node_id (is_empty t.attributes) refl refl refl
as_labels as_collection t p n = refl
as_labels as_resource t p n = refl
as_labels as_literal t p n = refl
as_labels as_other t p n = refl

-- the rules in their order, by what `judge_property` is told
property_rules : {t : Tag} {reserved li : Bool} {p : ParseType} {resource node_id properties : Bool} (s : Subject) (count n : ℕ) → PropertyTag t reserved li p resource node_id properties
    → open_property t s count n
    ≡ ((require not reserved or Reserved) >> ((require not (two_objects_by (parse_type_is p) resource node_id) or TwoNames) >> ((when li then one_more count else good tt)
    >> ((when takes_label (parse_type_is p) resource node_id properties then one_more n else good tt) >> good (property_opened (parse_type_is p) t (property_in t s count) n)))))
unfolding open_property two_objects property_in
property_rules {t} s count n k =
    rw (k.name, k.numbered, k.parse, k.has_resource, k.has_node_id, k.has_properties, not-not (may_be_property t.iri), ← two-objects t.parse_type (is_some t.resource) (is_some t.node_id), ← as_labels (parse_type_of t.parse_type) t (property_in t s count) n)

-- the tests of `judge_property`
module _ {reserved li : Bool} {count : ℕ} {p : ParseType} {resource node_id properties : Bool} {n : ℕ} where
  pub property_reserved : reserved ≡ true → PropertyJudged reserved li count p resource node_id properties n (Err Reserved)
  unfolding ◌>>◌ require◌or◌
  property_reserved h = record { is = λ t s k. property_rules s count n k ∙ rw h; numbers = λ e. absurd (stop_good e); left = λ e. absurd (stop_good e) }

  module _ (h : reserved ≡ false) where
    pub property-two : two_objects_by (parse_type_is p) resource node_id ≡ true → PropertyJudged reserved li count p resource node_id properties n (Err TwoNames)
    unfolding ◌>>◌ require◌or◌
    property-two w = record { is = λ t s k. property_rules s count n k ∙ rw (h, w); numbers = λ e. absurd (stop_good e); left = λ e. absurd (stop_good e) }

    module _ (w : two_objects_by (parse_type_is p) resource node_id ≡ false) where
      pub property-counted : (li && not (ltb count most_labels)) ≡ true → PropertyJudged reserved li count p resource node_id properties n (Err LabelsSpent)
      unfolding ◌>>◌ require◌or◌
      property-counted m = record { is = λ t s k. property_rules s count n k ∙ rw (h, w, asked_spent li count m); numbers = λ e. absurd (stop_good e); left = λ e. absurd (stop_good e) }

      module _ (m : (li && not (ltb count most_labels)) ≡ false) where
        pub property-spent : (takes_label (parse_type_is p) resource node_id properties && not (ltb n most_labels)) ≡ true
            → PropertyJudged reserved li count p resource node_id properties n (Err LabelsSpent)
        unfolding ◌>>◌ require◌or◌
        property-spent g =
            record { is = λ t s k. property_rules s count n k ∙ rw (h, w, asked_left li count m, asked_spent _ n g); numbers = λ e. absurd (stop_good e); left = λ e. absurd (stop_good e) }

        pub property_good : (takes_label (parse_type_is p) resource node_id properties && not (ltb n most_labels)) ≡ false
            → PropertyJudged reserved li count p resource node_id properties n (Ok tt)
        unfolding ◌>>◌ require◌or◌
        property_good g =
            record { is = λ t s k. property_rules s count n k ∙ rw (h, w, asked_left li count m, asked_left _ n g); numbers = λ e. below count m; left = λ e. below n g }

-- ---- what callers learn

-- the subject of a node element, by its names
module _ (t : Tag) (n : ℕ) where
  pub subject_id : {i : Bytes} → t.id ≡ some i → node_subject t n ≡ named i
  unfolding node_subject or_else subject_of
  subject_id e = rw e

  pub subject-about : {i : Bytes} → t.id ≡ none → t.about ≡ some i → node_subject t n ≡ named i
  unfolding node_subject or_else subject_of
  subject-about e f = rw (e, f)

  pub subject-node_id : {l : Bytes} → t.id ≡ none → t.about ≡ none → t.node_id ≡ some l → node_subject t n ≡ blank l
  unfolding node_subject or_else subject_of
  subject-node_id e f g = rw (e, f, g)

  pub subject_generated : t.id ≡ none → t.about ≡ none → t.node_id ≡ none → node_subject t n ≡ blank (label (suc n))
  unfolding node_subject or_else subject_of
  subject_generated e f g = rw (e, f, g)

-- a property element that is good, by its rdf:parseType and its object
module _ {t : Tag} {reserved li : Bool} {count : ℕ} {p : ParseType} {resource node_id properties : Bool} {n : ℕ} (h : PropertyJudged reserved li count p resource node_id properties n (Ok tt))
    (s : Subject) (k : PropertyTag t reserved li p resource node_id properties) where
  pub opens_collection : p ≡ parse.Collection → open_property t s count n ≡ good (record { lines = []; kind = property_element (property_in t s count) (collection []); labels = n })
  unfolding property_opened
  opens_collection e = rw e at (h.is t s k)

  pub opens_literal : p ≡ parse.Literal → open_property t s count n ≡ good (record { lines = []; kind = property_element (property_in t s count) (literal []); labels = n })
  unfolding property_opened
  opens_literal e = rw e at (h.is t s k)

  pub opens_other : p ≡ parse.Other → open_property t s count n ≡ good (record { lines = []; kind = property_element (property_in t s count) other; labels = n })
  unfolding property_opened
  opens_other e = rw e at (h.is t s k)

  pub opens_resource : p ≡ parse.Resource
      → open_property t s count n ≡ good (record { lines = statement (property_in t s count) (node (blank (label (suc n)))); kind = node_element (blank (label (suc n))) 0; labels = suc n })
  unfolding property_opened
  opens_resource e = rw e at (h.is t s k)

  -- none: an object named by rdf:resource, by rdf:nodeID, or by a generated label; or no object yet
  module _ (e : p ≡ parse.Absent) where
    as_default : open_property t s count n ≡ good (property_opened no_parse_type t (property_in t s count) n)
    as_default = rw e at (h.is t s k)

    pub opens_named : {i : Bytes} → t.resource ≡ some i
        → open_property t s count n ≡ good (record { lines = tag_lines (named i) t; kind = property_element (property_in t s count) (default t.datatype (node_object (named i))); labels = n })
    unfolding property_opened has_node object_in labels_behind subject_of is_some when◌then◌else◌
    opens_named f = as_default ∙ rw f

    pub opens_blank : {l : Bytes} → t.resource ≡ none → t.node_id ≡ some l
        → open_property t s count n ≡ good (record { lines = tag_lines (blank l) t; kind = property_element (property_in t s count) (default t.datatype (node_object (blank l))); labels = n })
    unfolding property_opened has_node object_in labels_behind subject_of is_some when◌then◌else◌
    opens_blank f g = as_default ∙ rw (f, g)

    pub opens_generated : t.resource ≡ none → t.node_id ≡ none → properties ≡ true
        → open_property t s count n
        ≡ good (record { lines = tag_lines (blank (label (suc n))) t; kind = property_element (property_in t s count) (default t.datatype (node_object (blank (label (suc n))))); labels = suc n })
    unfolding property_opened has_node object_in labels_behind subject_of is_some when◌then◌else◌
    opens_generated f g q = as_default ∙ rw (f, g, ← k.has_properties, q)

    pub opens_empty : t.resource ≡ none → t.node_id ≡ none → properties ≡ false
        → open_property t s count n ≡ good (record { lines = []; kind = property_element (property_in t s count) (default t.datatype no_object); labels = n })
    unfolding property_opened has_node is_some when◌then◌else◌
    opens_empty f g q = as_default ∙ rw (f, g, ← k.has_properties, q)
