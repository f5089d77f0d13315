-- What the productions ask of attributes and children alone, as a test: what fails it is not in the grammar.
use Rattle.std.specs.Prelude.{◌≡◌, Bool, true, false, ◌&&◌, ◌||◌, List, [], ◌∷◌, ◌++◌, ℕ, suc, eqb, length}
use Rattle.std.proofs.Math.Path.{refl}
use Rattle.std.proofs.Common.{◌∙◌, ap}
use Rattle.std.proofs.lemmas.Bool.{not-true}
use Rattle.std.proofs.Math.Option.{Option, none, some}
use Rattle.spec.specs.Bytes.{Bytes, ascii, when◌then◌else◌, same, is_empty, member}
use Rattle.spec.specs.Pyx.{Attribute}
use Rattle.spec.specs.Namespaces.{declared}
use Rattle.spec.specs.Rdf.{rdf}
use Rattle.theorems.specs.Roles.{or_none}
use Rattle.spec.specs.NTriples.{Subject, Triple}
use Rattle.spec.proofs.Booleans.{or_left, or_right_lem, and_both}
use Rattle.spec.proofs.Bytes.{same_refl}
use Rattle.section7.specs.Events.{Content, end, characters, instruction, comment, element, before_text, text_of_content, Context, inside, AttributeEvent}
use Rattle.section7.specs.Grammar as G
use Rattle.section7.specs.Grammar.{value, property_attribute_ur_is, attrs, node_element_list, is_space_text, Used, Matches, outermost, Misc, Accepts, RDF, alone, misc_ws, misc_instruction, misc_comment}
use Rattle.section7.specs.Differences.{parse_type, Place, document, nodes, properties, xml, by_parse_type, place_under, element_uri}
use Rattle.section7.specs.Differences as D
use Rattle.section7.specs.Reading.{place_of}
use Rattle.section7.proofs.Productions.{only-parse_type, datatype_parse_type, object-parse_type, blank_parse_type}
use Rattle.section7.proofs.Section7.{inside_resource, inside_collection, inside_default}
use Rattle.section7.proofs.Documents.{uri_same, not_root, inside-rdf, inside-node}
use Rattle.section7.proofs.OtherEvents.{before_some, no_text}

-- ---- the test

unfoldable pub only : List Bytes → List AttributeEvent → Bool
only us [] = true
only us (a ∷ as') = member a.0 us && only us as'

unfoldable pub or_properties : List Bytes → List AttributeEvent → Bool
or_properties us [] = true
or_properties us (a ∷ as') = (member a.0 us || property_attribute_ur_is a.0) && or_properties us as'

-- how many elements, and is all text around them white space?
unfoldable pub elements_in : Content → ℕ
elements_in end = 0
elements_in (characters s following) = elements_in following
elements_in (instruction s following) = elements_in following
elements_in (comment s following) = elements_in following
elements_in (element n as' children following) = suc (elements_in following)

unfoldable pub is_spaced : Content → Bool
is_spaced end = true
is_spaced (characters s following) = is_space_text s && is_spaced following
is_spaced (instruction s following) = is_spaced following
is_spaced (comment s following) = is_spaced following
is_spaced (element n as' children following) = is_spaced following

-- 7.2.15, 7.2.16, 7.2.21, by the text
unfoldable pub default_shape : Option Bytes → List AttributeEvent → Content → Bool
default_shape none as' x = only (rdf "ID" ∷ []) as' && (eqb (elements_in x) 1 && is_spaced x)
default_shape (some t) as' x =
    when is_empty t then or_properties (rdf "ID" ∷ rdf "resource" ∷ rdf "nodeID" ∷ []) as' || or_properties (rdf "ID" ∷ rdf "datatype" ∷ []) as' else
    only (rdf "ID" ∷ rdf "datatype" ∷ []) as'

-- 7.2.14, by rdf:parseType
unfoldable pub property_shape : Option Bytes → List AttributeEvent → Content → Bool
property_shape none as' x = default_shape (text_of_content x) as' x
property_shape (some v) as' x = only (rdf "ID" ∷ rdf "parseType" ∷ []) as'

-- 7.2.11
unfoldable pub node_shape : List AttributeEvent → Bool
node_shape as' = or_properties (rdf "ID" ∷ rdf "nodeID" ∷ rdf "about" ∷ []) as'

-- by where an element stands
unfoldable pub shape : Place → Bytes → Context → List Attribute → Content → Bool
shape document uri c as' x = when same uri (rdf "RDF") then is_empty (attrs c as') else node_shape (attrs c as')
shape nodes uri c as' x = node_shape (attrs c as')
shape properties uri c as' x = property_shape (parse_type c as') (attrs c as') x
shape xml uri c as' x = true

unfoldable pub is_shaped : Place → Context → Content → Bool
is_shaped p c end = true
is_shaped p c (characters s following) = is_shaped p c following
is_shaped p c (instruction s following) = is_shaped p c following
is_shaped p c (comment s following) = is_shaped p c following
is_shaped p c (element n as' children following) =
    shape p (element_uri (declared as' ++ c.bindings) n) c as' children
    && (is_shaped (place_under p (element_uri (declared as' ++ c.bindings) n) (parse_type c as')) (inside as' c) children && is_shaped p c following)

unfoldable pub all : Unit {0}
unfolding D.all only or_properties elements_in is_spaced default_shape property_shape node_shape shape is_shaped
all = tt

-- ---- the grammar passes it

passes_only : (us : List Bytes) (as' : List AttributeEvent) → G.Only us as' → only us as' ≡ true
unfolding only
passes_only us [] h = refl
passes_only us (a ∷ as') h = rw h.0 (passes_only us as' h.1)

passes_or : (us : List Bytes) (as' : List AttributeEvent) → G.OrProperties us as' → or_properties us as' ≡ true
unfolding or_properties
passes_or us [] h = refl
passes_or us (a ∷ as') h = rw h.0 (passes_or us as' h.1)

-- a row of node elements
counted-nodes : {ss : List Subject} {c : Context} {x : Content} {u u' : Used} {ts : List Triple} → Matches (node_element_list ss) c x u u' ts → (elements_in x ≡ length ss) × (is_spaced x ≡ true)
unfolding elements_in is_spaced
counted-nodes G.no_node = (refl, refl)
counted-nodes (G.ws h m) = ((counted-nodes m).0, and_both _ _ h (counted-nodes m).1)
counted-nodes (G.ignored_instruction m) = counted-nodes m
counted-nodes (G.ignored_comment m) = counted-nodes m
counted-nodes (G.node_element e h a two s m₁ m₂) = (ap suc (counted-nodes m₂).0, (counted-nodes m₂).1)

no_text_with : {s : Subject} {ss : List Subject} {c : Context} {x : Content} {u u' : Used} {ts : List Triple} → Matches (node_element_list (s ∷ ss)) c x u u' ts → text_of_content x ≡ none
unfolding text_of_content before_text
no_text_with (G.ws h m) = rw (no_text_with m)
no_text_with (G.ignored_instruction m) = no_text_with m
no_text_with (G.ignored_comment m) = no_text_with m
no_text_with (G.node_element e h a two s m₁ m₂) = refl

-- property attributes are not asked for
without_properties : (us : List Bytes) (as' : List AttributeEvent) → G.Only us as' → or_properties us as' ≡ true
unfolding or_properties
without_properties us [] h = refl
without_properties us (a ∷ as') h = and_both _ _ (or_left _ _ h.0) (without_properties us as' h.1)

-- content without elements, and XML content
text_shaped : (p : Place) (c : Context) (x : Content) (t : Bytes) → text_of_content x ≡ some t → is_shaped p c x ≡ true
unfolding is_shaped text_of_content
text_shaped p c end t h = refl
text_shaped p c (characters s f) t h = let r : (r : Bytes) × (text_of_content f ≡ some r) × (t ≡ s ++ r) = before_some s (text_of_content f) t h in text_shaped p c f r.0 r.1
text_shaped p c (instruction s f) t h = text_shaped p c f t h
text_shaped p c (comment s f) t h = text_shaped p c f t h
text_shaped p c (element n as' children f) t h = absurd (no_text t h)

xml_shaped : (c : Context) (x : Content) → is_shaped xml c x ≡ true
unfolding is_shaped shape place_under
xml_shaped c end = refl
xml_shaped c (characters s f) = xml_shaped c f
xml_shaped c (instruction s f) = xml_shaped c f
xml_shaped c (comment s f) = xml_shaped c f
xml_shaped c (element n as' children f) = and_both _ _ (xml_shaped (inside as' c) children) (xml_shaped c f)

inside-literal : (uri : Bytes) (t : Option Bytes) → t ≡ some (ascii "Literal") → place_under properties uri t ≡ xml
unfolding place_under by_parse_type when◌then◌else◌ same ascii
inside-literal uri t h = rw h refl

inside-other : (uri v : Bytes) (t : Option Bytes) → t ≡ some v → G.parse_other v ≡ true → place_under properties uri t ≡ xml
unfolding place_under by_parse_type when◌then◌else◌ G.parse_other member
inside-other uri v t h o =
    let k : (same v (ascii "Resource") ≡ false) × ((same v (ascii "Literal") || (same v (ascii "Collection") || false)) ≡ false) = or_none _ _ (not-true _ o) in
    let l : (same v (ascii "Literal") ≡ false) × ((same v (ascii "Collection") || false) ≡ false) = or_none _ _ k.1 in
    rw (h, k.0, (or_none (same v (ascii "Collection")) false l.1).0) refl

-- property elements without rdf:parseType
module _ (as' : List AttributeEvent) (x : Content) where
  text_passes : (t : Bytes) → text_of_content x ≡ some t → is_empty t ≡ false → G.Only (rdf "ID" ∷ rdf "datatype" ∷ []) as' → property_shape (value (rdf "parseType") as') as' x ≡ true
  unfolding property_shape default_shape when◌then◌else◌
  text_passes t h full a = rw (datatype_parse_type as' a, h, full) (passes_only _ as' a)

  empty_passes : text_of_content x ≡ some [] → value (rdf "parseType") as' ≡ none
      → (or_properties (rdf "ID" ∷ rdf "resource" ∷ rdf "nodeID" ∷ []) as' || or_properties (rdf "ID" ∷ rdf "datatype" ∷ []) as') ≡ true → property_shape (value (rdf "parseType") as') as' x ≡ true
  unfolding property_shape default_shape when◌then◌else◌ is_empty
  empty_passes h n a = rw (n, h) a

  node_passes : {o : Subject} {c : Context} {u u' : Used} {ts : List Triple} → Matches (node_element_list (o ∷ [])) c x u u' ts → G.Only (rdf "ID" ∷ []) as' → property_shape (value (rdf "parseType") as') as' x ≡ true
  unfolding property_shape default_shape
  node_passes m a = rw (only-parse_type as' a, no_text_with m, passes_only _ as' a, (counted-nodes m).0, (counted-nodes m).1) refl

  parse_type_passes : (v : Bytes) → value (rdf "parseType") as' ≡ some v → G.Only (rdf "ID" ∷ rdf "parseType" ∷ []) as' → property_shape (value (rdf "parseType") as') as' x ≡ true
  unfolding property_shape
  parse_type_passes v h a = rw h (passes_only _ as' a)

placed : {p q : Place} (c : Context) (x : Content) → p ≡ q → is_shaped q c x ≡ true → is_shaped p c x ≡ true
placed c x h k = rw h k

three : (a b c : Bool) → a ≡ true → b ≡ true → c ≡ true → (a && (b && c)) ≡ true
three a b c p q r = rw (p, q, r)

row_shaped : {r : G.Row} {c : Context} {x : Content} {u u' : Used} {ts : List Triple} → Matches r c x u u' ts → is_shaped (place_of r) c x ≡ true
unfolding is_shaped shape place_under node_shape
row_shaped G.no_node = refl
row_shaped G.no_property = refl
row_shaped (G.ws h m) = row_shaped m
row_shaped (G.ignored_instruction m) = row_shaped m
row_shaped (G.ignored_comment m) = row_shaped m
row_shaped (G.node_element e h a two s m₁ m₂) = three _ _ _ (passes_or _ _ a) (row_shaped m₁) (row_shaped m₂)
row_shaped (G.resource_property_elt {c = c} {as' = as'} {children = x} e h a m₁ m₂) =
    three _ _ _ (node_passes (attrs c as') x m₁ a) (placed (inside as' c) x (inside_default [] _ (only-parse_type (attrs c as') a)) (row_shaped m₁)) (row_shaped m₂)
row_shaped (G.literal_property_elt {c = c} {t = t} {as' = as'} {children = x} e h a is full m) =
    three _ _ _ (text_passes (attrs c as') x t is full a) (text_shaped _ _ x t is) (row_shaped m)
row_shaped (G.parse_type_literal_property_elt {c = c} {as' = as'} {children = x} e h a t w m) =
    three _ _ _ (parse_type_passes (attrs c as') x _ t a) (placed (inside as' c) x (inside-literal [] _ t) (xml_shaped _ x)) (row_shaped m)
row_shaped (G.parse_type_resource_property_elt {c = c} {as' = as'} {children = x} e h a t m₁ m₂) =
    three _ _ _ (parse_type_passes (attrs c as') x _ t a) (placed (inside as' c) x (inside_resource [] _ t) (row_shaped m₁)) (row_shaped m₂)
row_shaped (G.parse_type_collection_property_elt {c = c} {as' = as'} {children = x} e h a t m₁ m₂) =
    three _ _ _ (parse_type_passes (attrs c as') x _ t a) (placed (inside as' c) x (inside_collection [] _ t) (row_shaped m₁)) (row_shaped m₂)
row_shaped (G.parse_type_other_property_elt {c = c} {v = v} {as' = as'} {children = x} e h a t o w m) =
    three _ _ _ (parse_type_passes (attrs c as') x _ t a) (placed (inside as' c) x (inside-other [] v _ t o) (xml_shaped _ x)) (row_shaped m)
row_shaped (G.empty_property_elt {c = c} {as' = as'} {children = x} e h a is m) =
    three _ _ _ (empty_passes (attrs c as') x is (datatype_parse_type (attrs c as') a) (or_right_lem (or_properties _ (attrs c as')) _ (without_properties _ _ a))) (text_shaped _ _ x [] is) (row_shaped m)
row_shaped (G.empty_property_elt_named {c = c} {as' = as'} {children = x} e h a two one is o m) =
    three _ _ _ (empty_passes (attrs c as') x is (object-parse_type (attrs c as') a) (or_left _ _ (passes_or _ _ a))) (text_shaped _ _ x [] is) (row_shaped m)
row_shaped (G.empty_property_elt_blank {c = c} {as' = as'} {children = x} e h a one is o m) =
    three _ _ _ (empty_passes (attrs c as') x is (blank_parse_type (attrs c as') a) (or_right_lem (or_properties _ (attrs c as')) _ (passes_or _ _ a))) (text_shaped _ _ x [] is) (row_shaped m)

misc_shaped : (p : Place) (c : Context) (x : Content) → Misc x → is_shaped p c x ≡ true
unfolding is_shaped
misc_shaped p c end m = refl
misc_shaped p c (characters t f) m = misc_shaped p c f m.1
misc_shaped p c (instruction t f) m = misc_shaped p c f m
misc_shaped p c (comment t f) m = misc_shaped p c f m
misc_shaped p c (element n as' children f) m = absurd m

root-shape : (uri : Bytes) (c : Context) (as' : List Attribute) (x : Content) → uri ≡ rdf "RDF" → attrs c as' ≡ [] → shape document uri c as' x ≡ true
unfolding shape when◌then◌else◌ is_empty
root-shape uri c as' x h a = rw (h, same_refl (rdf "RDF"), a)

alone_shape : (uri : Bytes) (c : Context) (as' : List Attribute) (x : Content) → G.node_element_ur_is uri ≡ true → node_shape (attrs c as') ≡ true → shape document uri c as' x ≡ true
unfolding shape when◌then◌else◌
alone_shape uri c as' x h a = rw (not_root uri h) a

-- what section 7 accepts passes it
pub accepted_shaped : (b : Option Bytes) {x : Content} {u : Used} {ts : List Triple} → Accepts b x u ts → is_shaped document (outermost b) x ≡ true
unfolding is_shaped node_shape
accepted_shaped b (RDF {n = n} {as' = as'} {children = children} {f = f} e h a m misc) =
    let z : element_uri (declared as' ++ []) n ≡ rdf "RDF" = uri_same b n as' e ∙ h in
    three _ _ _ (root-shape _ _ as' children z a) (placed (inside as' (outermost b)) children (inside-rdf _ _ z) (row_shaped m)) (misc_shaped document (outermost b) f misc)
accepted_shaped b (alone {f = f} (G.node_element {n = n} {as' = as'} {children = children} e h a two s m G.no_node) misc) =
    let z : G.node_element_ur_is (element_uri (declared as' ++ []) n) ≡ true = rw (uri_same b n as' e) h in
    three _ _ _ (alone_shape _ _ as' children z (passes_or _ _ a)) (placed (inside as' (outermost b)) children (inside-node _ _ z) (row_shaped m)) (misc_shaped document (outermost b) f misc)
accepted_shaped b (misc_ws h m) = accepted_shaped b m
accepted_shaped b (misc_instruction m) = accepted_shaped b m
accepted_shaped b (misc_comment m) = accepted_shaped b m
