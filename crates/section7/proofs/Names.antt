-- The names of section 7 and those of document 01.
use Rattle.std.specs.Prelude.{◌≡◌, refl, Bool, true, ◌&&◌, ◌||◌, not, List, [], ◌∷◌, ◌++◌, map}
use Rattle.std.proofs.Common.{sym, ◌∙◌, ap, inl, inr}
use Rattle.std.proofs.Math.Bool.{false}
use Rattle.std.proofs.lemmas.Bool.{false≢true, not-true}
use Prim.Native.String.{String}
use Rattle.spec.specs.Bytes.{Bytes, ascii, when◌then◌else◌, same, member, those, All}
use Rattle.spec.specs.Rdf.{rdf, reserved_elements, may_be_node, may_be_property}
use Rattle.spec.specs.Rdf as F
use Rattle.spec.specs.RdfXml.{is_blank}
use Rattle.spec.specs.StartTag.{Role, property, role_number, same_role, rdf_roles, role_among}
use Rattle.spec.proofs.Booleans.{or_cases, or_left, and_left, and_right, no_true}
use Rattle.spec.proofs.Bytes.{same_true}
use Rattle.section7.specs.Events.{AttributeEvent}
use Rattle.section7.specs.Grammar.{core_syntax_terms, old_terms, node_element_ur_is, property_element_ur_is, property_attribute_ur_is, literal_attribute, Only, OrProperties, is_space_text}
use Rattle.section7.proofs.Attributes.{is_property, no_attributes}

-- a list of names inside another
unfoldable pub within : List Bytes → List Bytes → Bool
within [] m = true
within (x ∷ l) m = member x m && within l m

sub_member : (i : Bytes) (l m : List Bytes) → within l m ≡ true → member i l ≡ true → member i m ≡ true
unfolding within member
sub_member i [] m w h = absurd (false≢true h)
sub_member i (x ∷ l) m w h = elim (or_cases (same i x) (member i l) h) [
  | inl e ↦ ap (λ (y : Bytes). member y m) (same_true i x e) ∙ and_left (member x m) (within l m) w
  | inr e ↦ sub_member i l m (and_right (member x m) (within l m) w) e
]

not_member : (i : Bytes) (l m : List Bytes) → within l m ≡ true → member i m ≡ false → member i l ≡ false
not_member i l m w h = no_true (member i l) λ e. false≢true (sym h ∙ sub_member i l m w e)

-- ---- elements

abbrev not_nodes : List Bytes
not_nodes = core_syntax_terms ++ (rdf "li" ∷ old_terms)

abbrev not_properties : List Bytes
not_properties = core_syntax_terms ++ (rdf "Description" ∷ old_terms)

abbrev not_attributes : List Bytes
not_attributes = core_syntax_terms ++ (rdf "Description" ∷ rdf "li" ∷ old_terms)

same_members : (l m : List Bytes) → within l m ≡ true → within m l ≡ true → (i : Bytes) → member i l ≡ member i m
same_members l m v w i = go (member i m) refl
  where
    go : (b : Bool) → member i m ≡ b → member i l ≡ b
    go true e = sub_member i m l w e
    go false e = not_member i l m v e

reserved_nodes : within reserved_elements not_nodes ≡ true
unfolding reserved_elements core_syntax_terms old_terms within F.all
reserved_nodes = refl

nodes_reserved : within not_nodes reserved_elements ≡ true
unfolding reserved_elements core_syntax_terms old_terms within F.all
nodes_reserved = refl

-- 7.2.5: document 01 has the same names
pub node-names : (i : Bytes) → may_be_node i ≡ node_element_ur_is i
unfolding node_element_ur_is may_be_node
node-names i = ap not (same_members reserved_elements not_nodes reserved_nodes nodes_reserved i)

pub node-name : (i : Bytes) → node_element_ur_is i ≡ true → may_be_node i ≡ true
node-name i h = node-names i ∙ h

neither : (a b : Bool) → a ≡ false → b ≡ false → (a || b) ≡ false
neither a b p q = rw (p, q)

reserved_properties : within (rdf "Description" ∷ reserved_elements) (rdf "li" ∷ not_properties) ≡ true
unfolding reserved_elements core_syntax_terms old_terms within F.all
reserved_properties = refl

properties_reserved : within (rdf "li" ∷ not_properties) (rdf "Description" ∷ reserved_elements) ≡ true
unfolding reserved_elements core_syntax_terms old_terms within F.all
properties_reserved = refl

li-property : member (rdf "li") not_properties ≡ false
unfolding core_syntax_terms old_terms F.all
li-property = refl

-- 7.2.6: and here
pub property_element_names : (i : Bytes) → may_be_property i ≡ property_element_ur_is i
unfolding property_element_ur_is may_be_property
property_element_names i = go (same i (rdf "li")) (member i not_properties) (same i (rdf "Description")) (member i reserved_elements) is_li_lem both
  where
    is_li_lem : same i (rdf "li") ≡ true → member i not_properties ≡ false
    is_li_lem e = ap (λ (x : Bytes). member x not_properties) (same_true i (rdf "li") e) ∙ li-property

    both : (same i (rdf "Description") || member i reserved_elements) ≡ (same i (rdf "li") || member i not_properties)
    both = unfold member in same_members (rdf "Description" ∷ reserved_elements) (rdf "li" ∷ not_properties) reserved_properties properties_reserved i

    go : (l n d r : Bool) → (l ≡ true → n ≡ false) → (d || r) ≡ (l || n) → (l || not (r || d)) ≡ not n
    go true n d r h k = sym (ap not (h refl))
    go false n true true h k = ap not k
    go false n true false h k = ap not k
    go false n false true h k = ap not k
    go false n false false h k = ap not k

pub property-name : (i : Bytes) → property_element_ur_is i ≡ true → may_be_property i ≡ true
property-name i h = property_element_names i ∙ h

-- ---- attributes

-- the names of the table
unfoldable pub names : List (String × Role) → List Bytes
names rs = map (λ e. rdf e.0) rs

no_property : List (String × Role) → Bool
no_property [] = true
no_property (e ∷ rs) = not (same_role property e.1) && no_property rs

table-property : no_property rdf_roles ≡ true
unfolding no_property rdf_roles same_role role_number
table-property = refl

-- a property is what has none of them
property-names : (rs : List (String × Role)) (i : Bytes) → no_property rs ≡ true → same_role property (role_among rs i) ≡ not (member i (names rs))
unfolding no_property names role_among member when◌then◌else◌ same_role role_number
property-names [] i h = refl
property-names (e ∷ rs) i h = go (same i (rdf e.0)) (property-names rs i (and_right (not (same_role property e.1)) (no_property rs) h))
  where
    go : (b : Bool) → same_role property (role_among rs i) ≡ not (member i (names rs)) → same_role property (when b then e.1 else role_among rs i) ≡ not (b || member i (names rs))
    go true ih = not-true (same_role property e.1) (and_left _ (no_property rs) h)
    go false ih = ih

table-attributes : within (names rdf_roles) (rdf "type" ∷ not_attributes) ≡ true
unfolding names rdf_roles core_syntax_terms old_terms within F.all
table-attributes = refl

-- 7.2.7: document 01 has the same names, but for rdf:Description, and rdf:type apart
abbrev pub no_literals : List Bytes
no_literals = rdf "type" ∷ (core_syntax_terms ++ (rdf "li" ∷ old_terms))

table-names : (within (names rdf_roles) no_literals ≡ true) × (within no_literals (names rdf_roles) ≡ true)
unfolding names rdf_roles core_syntax_terms old_terms within F.all
table-names = (refl, refl)

pub attribute_names : (i : Bytes) → member i (names rdf_roles) ≡ member i no_literals
attribute_names i = same_members (names rdf_roles) no_literals table-names.0 table-names.1 i

type_in_table : within (rdf "type" ∷ []) (names rdf_roles) ≡ true
unfolding names rdf_roles within F.all
type_in_table = refl

-- of a property attribute: all but rdf:type
allowed-property : (i : Bytes) → member i not_attributes ≡ false → member i (names rdf_roles) ≡ same i (rdf "type")
allowed-property i h = go (same i (rdf "type")) refl
  where
    go : (b : Bool) → same i (rdf "type") ≡ b → member i (names rdf_roles) ≡ b
    go true e = sub_member i (rdf "type" ∷ []) (names rdf_roles) type_in_table (unfold member in or_left (same i (rdf "type")) false e)
    go false e = not_member i (names rdf_roles) (rdf "type" ∷ not_attributes) table-attributes (unfold member in neither (same i (rdf "type")) (member i not_attributes) e h)

-- the other attributes that a production names
abbrev pub Terms : List Bytes → Type 0
Terms us = within us (names rdf_roles) ≡ true

property-same : (us : List Bytes) → Terms us → (a : AttributeEvent) → (member a.0 us || property_attribute_ur_is a.0) ≡ true → is_property a ≡ literal_attribute a
unfolding is_property literal_attribute property_attribute_ur_is
property-same us t a h = property-names rdf_roles a.0 table-property ∙ go (member a.0 not_attributes) refl h
  where
    go : (b : Bool) → member a.0 not_attributes ≡ b → (member a.0 us || not b) ≡ true → not (member a.0 (names rdf_roles)) ≡ (not b && not (same a.0 (rdf "type")))
    go true e k =
        let m : member a.0 us ≡ true = elim (or_cases (member a.0 us) false k) [ inl x ↦ x | inr y ↦ absurd (false≢true y) ] in
        ap not (sub_member a.0 us (names rdf_roles) t m)
    go false e k = ap not (allowed-property a.0 e)

pub properties_same : (us : List Bytes) → Terms us → (as' : List AttributeEvent) → OrProperties us as' → those is_property as' ≡ those literal_attribute as'
unfolding those
properties_same us t [] h = refl
properties_same us t (a ∷ as') h = rw (property-same us t a h.0, properties_same us t as' h.1)

-- where only such attributes are allowed there is no property attribute
pub only_properties : (us : List Bytes) → Terms us → (as' : List AttributeEvent) → Only us as' → those is_property as' ≡ []
unfolding those is_property when◌then◌else◌
only_properties us t [] h = refl
only_properties us t (a ∷ as') h = rw (property-names rdf_roles a.0 table-property, sub_member a.0 us (names rdf_roles) t h.0) (only_properties us t as' h.1)

-- no attribute that a production has is one of the terms that none has
unfoldable pub none_passes : (Bytes → Bool) → List Bytes → Bool
none_passes test [] = true
none_passes test (x ∷ l) = not (test x) && none_passes test l

passes_none : (test : Bytes → Bool) (l : List Bytes) → none_passes test l ≡ true → (i : Bytes) → test i ≡ true → member i l ≡ false
unfolding none_passes member
passes_none test [] h i t = refl
passes_none test (x ∷ l) h i t = neither (same i x) (member i l) differs (passes_none test l (and_right (not (test x)) (none_passes test l) h) i t)
  where
    differs : same i x ≡ false
    differs = no_true (same i x) λ e. false≢true (sym (not-true (test x) (and_left (not (test x)) (none_passes test l) h)) ∙ (ap test (sym (same_true i x e)) ∙ t))

pub all_allowed : (test : Bytes → Bool) → none_passes test no_attributes ≡ true → (as' : List AttributeEvent) → All (λ a. test a.0 ≡ true) as' → All (λ a. member a.0 no_attributes ≡ false) as'
all_allowed test h [] k = tt
all_allowed test h (a ∷ as') k = (passes_none test no_attributes h a.0 k.0, all_allowed test h as' k.1)

-- ---- white space

pub space_blank : (t : Bytes) → is_blank t ≡ is_space_text t
unfolding is_blank is_space_text ascii
space_blank t = refl
