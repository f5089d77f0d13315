-- What an event does to texts: if all that the open elements hold are texts, and the event's names and values are, then so are all
-- that its lines say, labels and tags apart, and all that the elements open behind it hold.
use Rattle.std.specs.Prelude.{◌≡◌, refl, Bool, true, false, List, [], ◌∷◌, ◌++◌, map, ℕ, suc, ◌≤◌, ◌<◌, eqb}
use Rattle.std.proofs.Math.Option.{Option, none, some}
use Prim.Native.String.{String}
use Rattle.std.proofs.Common.{arith, ne_eqb}
use Rattle.spec.specs.XmlLang.{Language, no_language, language}
use Rattle.spec.specs.Bytes.{Bytes, ascii, byte, when◌then◌else◌, same, those, every, or_else, is_empty, All}
use Rattle.spec.specs.Bytes as B
use Rattle.spec.specs.Numbers.{Answer}
use Rattle.spec.specs.XmlNames.{no_colon, prefix_of, local_of}
use Rattle.spec.specs.Rdf.{rdf}
use Rattle.spec.specs.Pyx.{Attribute, attribute, Event, opening, closing, text, instruction}
use Rattle.spec.specs.Namespaces.{Binding, xml_name, is_declaration, declares, declared, look_up, namespace, expand_attribute, in_namespace, expand_element}
use Rattle.spec.specs.Namespaces as M
use Rattle.spec.specs.NTriples.{Subject, named, blank, Term, node, plain, tagged, typed, Triple, triple, label, digits, drop_zeros, decimal}
use Rattle.spec.specs.Document.{Object, no_object, node_object, text_object, Value, default, collection, literal, other, Property, Kind, rdf_rdf, wrapper, node_element, property_element, xml_element, Part, Frame, Doc, with_frames, with_labels, with_kind, with_part, in_scope, base_in_force, Place, outside, nodes, nodes_or_text, xml, properties, in_value, in_kind, place_in, change_value, on_value, is_xml_element}
use Rattle.spec.specs.StartTag as S
use Rattle.spec.specs.StartTag.{Role, same_role, Meaning, means, meaning, resolved, Tag, read_tag, xml_base, rdf_ID, rdf_about, rdf_resource, rdf_datatype, rdf_type, property}
use Rattle.spec.specs.Productions as O
use Rattle.spec.specs.Productions.{Opened, open_node, open_property, open_root, statement, type_line, attribute_lines, tag_lines, ParseType, no_parse_type, as_collection, as_resource, as_literal, as_other}
use Rattle.spec.specs.XmlLiteral.{text_byte, value_byte, text_xml, attribute_xml, attributes_xml, start_tag_xml, end_tag_xml, takes_xml, add_xml}
use Rattle.spec.specs.Xmp.{open_wrapper, wrapped}
use Rattle.spec.specs.Opening.{Step}
use Rattle.spec.specs.Opening as G
use Rattle.spec.specs.EndTag.{cells, head_cell}
use Rattle.spec.specs.EndTag as C
use Rattle.spec.specs.RdfXml.{next}
use Rattle.spec.specs.RdfXml as X
use Rattle.spec.proofs.Booleans.{and_right}
use Rattle.theorems.specs.Rules.{always_rules}
use Rattle.theorems.specs.Always.{Always, always_bind, always_after, always_require, always_if, always_each, all_append}
use Rattle.theorems.specs.Utf8.{is_ascii, Text, join, ascii-text, empty-text}
use Rattle.theorems.specs.Cuts.{Text?, past-text}
use Rattle.theorems.specs.Spelled.{coded-text}
use Rattle.theorems.specs.Rfc3986Texts.{resolve-text, or_else_lem}
use Rattle.theorems.specs.Labels.{ascii-digits}
use Rattle.theorems.specs.EventTexts.{TextAttribute, TextEvent}

-- ---- what has texts only, labels and tags apart

abbrev pub TextSubject : Subject → Type 0
TextSubject (named i) = Text i
TextSubject (blank l) = Unit {0}

abbrev pub TextTerm : Term → Type 0
TextTerm (node s) = TextSubject s
TextTerm (plain v) = Text v
TextTerm (tagged v l) = Text v
TextTerm (typed v d) = Text v × Text d

abbrev pub TextTriple : Triple → Type 0
TextTriple (triple s p o) = TextSubject s × Text p × TextTerm o

abbrev TextObject : Object → Type 0
TextObject no_object = Unit {0}
TextObject (node_object s) = TextSubject s
TextObject (text_object t) = Text t

abbrev TextValue : Value → Type 0
TextValue (default d o) = Text? d × TextObject o
TextValue (collection cs) = All TextSubject cs
TextValue (literal x) = Text x
TextValue other = Unit {0}

abbrev TextProperty : Property → Type 0
TextProperty p = TextSubject p.subject × Text p.iri × Text? p.id

abbrev TextKind : Kind → Type 0
TextKind rdf_rdf = Unit {0}
TextKind (wrapper b) = Unit {0}
TextKind (node_element s li) = TextSubject s
TextKind (property_element p v) = TextProperty p × TextValue v
TextKind xml_element = Unit {0}

-- the namespace
abbrev TextBinding : Binding → Type 0
TextBinding b = Text b.1

abbrev TextFrame : Frame → Type 0
TextFrame f = All TextBinding f.bindings × Text? f.own_base × TextKind f.kind

abbrev pub TextDoc : Doc → Type 0
TextDoc d = Text? d.start_base × All TextFrame d.frames

abbrev pub TextStep : Step → Type 0
TextStep s = All TextTriple s.0 × TextDoc s.1

-- ---- names

rdf-text : (s : String) → every is_ascii (ascii s) ≡ true → Text (rdf s)
unfolding rdf ascii every is_ascii
rdf-text s h = join (ascii-text (ascii "http://www.w3.org/1999/02/22-rdf-syntax-ns#") refl) (ascii-text (ascii s) h)

local_text : (n : Bytes) → Text n → Text (local_of n)
unfolding local_of when◌then◌else◌ ascii every is_ascii
local_text n t = go (no_colon n)
  where
    go : (b : Bool) → Text (when b then n else B.after (ascii ":") (B.from (B.among (ascii ":")) n))
    go true = t
    go false = past-text (ascii ":") refl n t 58

declared-text : (as' : List Attribute) → All TextAttribute as' → All TextBinding (declared as')
unfolding declared those declares when◌then◌else◌
declared-text [] h = tt
declared-text (attribute n v ∷ as') h = go (is_declaration (attribute n v)) (declared-text as' h.1)
  where
    go : (b : Bool) → All TextBinding (map declares (those is_declaration as')) → All TextBinding (map declares (when b then (attribute n v ∷ those is_declaration as') else those is_declaration as'))
    go true k = (h.0.1, k)
    go false k = k

scope-text : (fs : List Frame) → All TextFrame fs → All TextBinding (in_scope fs)
unfolding in_scope
scope-text [] h = tt
scope-text (f ∷ fs) h = all_append TextBinding f.bindings (in_scope fs) h.0.0 (scope-text fs h.1)

base-text : (b : Option Bytes) (fs : List Frame) → Text? b → All TextFrame fs → Text? (base_in_force b fs)
unfolding base_in_force
base-text b [] t h = t
base-text b (f ∷ fs) t h = or_else_lem f.own_base (base_in_force b fs) h.0.1 (base-text b fs t h.1)

look_up_text : (p : Bytes) (bs : List Binding) → All TextBinding bs → Text? (look_up p bs)
unfolding look_up when◌then◌else◌
look_up_text p [] h = tt
look_up_text p (b ∷ bs) h = go (same p b.0) (look_up_text p bs h.1)
  where
    go : (a : Bool) → Text? (look_up p bs) → Text? (when a then some b.1 else look_up p bs)
    go true k = h.0
    go false k = k

namespace-text : (bs : List Binding) (p : Bytes) → All TextBinding bs → Text? (namespace bs p)
unfolding namespace when◌then◌else◌ xml_name ascii every is_ascii
namespace-text bs p h = go (same p (ascii "xml"))
  where
    go : (a : Bool) → Text? (when a then some xml_name else look_up p bs)
    go true = ascii-text xml_name refl
    go false = look_up_text p bs h

joined-text : (o : Option Bytes) (l : Bytes) → Text? o → Text l → Text? (M.joined o l)
unfolding M.joined
joined-text none l h t = tt
joined-text (some ns) l h t = join h t

in_namespace_lem : (o : Option Bytes) (l : Bytes) → Text? o → Text l → Always Text (in_namespace o l)
unfolding in_namespace
in_namespace_lem none l h t = tt
in_namespace_lem (some ns) l h t = always_require Text _ _ _ λ e. join h t

element_text : (bs : List Binding) (n : Bytes) → All TextBinding bs → Text n → Always Text (expand_element bs n)
unfolding expand_element
element_text bs n h t = in_namespace_lem _ _ (namespace-text bs (prefix_of n) h) (local_text n t)

attribute_name : (bs : List Binding) (n : Bytes) → All TextBinding bs → Text n → Text? (expand_attribute bs n)
unfolding expand_attribute when◌then◌else◌
attribute_name bs n h t = go (is_empty (prefix_of n))
  where
    go : (b : Bool) → Text? (when b then some n else M.joined (namespace bs (prefix_of n)) (local_of n))
    go true = t
    go false = joined-text _ _ (namespace-text bs (prefix_of n) h) (local_text n t)

-- ---- start tags

abbrev TextMeaning : Meaning → Type 0
TextMeaning (means q i v) = Text i × Text v

known_text : (n : Bytes) (o : Option Bytes) → Text? o → Always Text (S.known n o)
unfolding S.known
known_text n none h = tt
known_text n (some i) h = always_require Text _ _ _ λ e. h

meaning-text : (bs : List Binding) → All TextBinding bs → (a : Attribute) → TextAttribute a → Always TextMeaning (meaning bs a)
unfolding meaning
meaning-text bs h (attribute n v) t =
    always_if TextMeaning _ _ _ (λ e. t) λ e.
    always_bind Text TextMeaning _ _ (known_text n _ (attribute_name bs n h t.0)) λ i k. always_after TextMeaning _ _ (k, t.1)

first_text : (r : Role) (ms : List Meaning) → All TextMeaning ms → Text? (S.first r ms)
unfolding S.first when◌then◌else◌
first_text r [] h = tt
first_text r (means q i v ∷ ms) h = go (same_role r q) (first_text r ms h.1)
  where
    go : (b : Bool) → Text? (S.first r ms) → Text? (when b then some v else S.first r ms)
    go true k = h.0.1
    go false k = k

abbrev TextPair : Bytes × Bytes → Type 0
TextPair a = Text a.0 × Text a.1

properties_text : (ms : List Meaning) → All TextMeaning ms → All TextPair (S.property_attributes ms)
unfolding S.property_attributes when◌then◌else◌
properties_text [] h = tt
properties_text (means q i v ∷ ms) h = go (same_role property q) (properties_text ms h.1)
  where
    go : (b : Bool) → All TextPair (S.property_attributes ms) → All TextPair (when b then ((i, v) ∷ S.property_attributes ms) else S.property_attributes ms)
    go true k = (h.0, k)
    go false k = k

resolved-text : (b r : Option Bytes) → Text? b → Text? r → Always Text? (resolved b r)
unfolding resolved
resolved-text b none h t = tt
resolved-text none (some r) h t = always_require Text? _ _ _ λ e. t
resolved-text (some b) (some r) h t = always_require Text? _ _ _ λ e. resolve-text b r h t

hash_text : (o : Option Bytes) → Text? o → Text? (S.with_hash o)
unfolding S.with_hash byte every is_ascii
hash_text none t = tt
hash_text (some i) t = join (ascii-text (35 ∷ []) refl) t

record TextTag (t : Tag) : Type 0 where
  pub iri : Text t.iri
  pub bindings : All TextBinding t.bindings
  pub own_base : Text? t.own_base
  pub attributes : All TextPair t.attributes
  pub id : Text? t.id
  pub about : Text? t.about
  pub resource : Text? t.resource
  pub datatype : Text? t.datatype
  pub type : Text? t.type

tag-text : (n : Bytes) (as' : List Attribute) (d : Doc) → Text n → All TextAttribute as' → TextDoc d → Always TextTag (read_tag n as' d)
unfolding read_tag
tag-text n as' d t h k =
    let bs : All TextBinding (declared as') = declared-text as' h in
    let scope : All TextBinding (declared as' ++ in_scope d.frames) = all_append TextBinding (declared as') (in_scope d.frames) bs (scope-text d.frames k.1) in
    always_bind Text TextTag _ _ (element_text _ n scope t) λ i ti.
    always_bind (All TextMeaning) TextTag _ _ (always_each TextAttribute TextMeaning _ (meaning-text _ scope) as' h) λ ms m.
    (let base : Text? (or_else (S.first xml_base ms) (base_in_force d.start_base d.frames)) = or_else_lem _ _ (first_text xml_base ms m) (base-text d.start_base d.frames k.0 k.1) in
    always_bind Text? TextTag _ _ (resolved-text _ _ base (hash_text _ (first_text rdf_ID ms m))) λ id' t₁.
    always_require TextTag _ _ _ λ e.
    always_bind Text? TextTag _ _ (resolved-text _ _ base (first_text rdf_about ms m)) λ about' t₂.
    always_bind Text? TextTag _ _ (resolved-text _ _ base (first_text rdf_resource ms m)) λ resource' t₃.
    always_bind Text? TextTag _ _ (resolved-text _ _ base (first_text rdf_datatype ms m)) λ datatype' t₄.
    always_bind Text? TextTag _ _ (resolved-text _ _ base (first_text rdf_type ms m)) λ type' t₅.
    record {
      iri = ti;
      bindings = bs;
      own_base = first_text xml_base ms m;
      attributes = properties_text ms m;
      id = t₁;
      about = t₂;
      resource = t₃;
      datatype = t₄;
      type = t₅;
    })

-- ---- lines

literal_text : (d : Option Bytes) (l : Language) (v : Bytes) → Text? d → Text v → TextTerm (O.literal_of d l v)
unfolding O.literal_of
literal_text (some d) l v h t = (t, h)
literal_text none (language m) v h t = t
literal_text none no_language v h t = t

type_lines : (s : Subject) (o : Option Bytes) → TextSubject s → Text? o → All TextTriple (type_line s o)
unfolding type_line ascii every is_ascii
type_lines s none h t = tt
type_lines s (some i) h t = ((h, rdf-text "type" refl, t), tt)

attribute_lines_lem : (s : Subject) (l : Language) (as' : List (Bytes × Bytes)) → TextSubject s → All TextPair as' → All TextTriple (attribute_lines s l as')
unfolding attribute_lines
attribute_lines_lem s l [] h t = tt
attribute_lines_lem s l (a ∷ as') h t = ((h, t.0.0, literal_text none l a.1 tt t.0.1), attribute_lines_lem s l as' h t.1)

tag-lines : (s : Subject) (t : Tag) → TextSubject s → TextTag t → All TextTriple (tag_lines s t)
unfolding tag_lines
tag-lines s t h k =
    all_append TextTriple (attribute_lines s t.language t.attributes) (type_line s t.type) (attribute_lines_lem s t.language t.attributes h k.attributes) (type_lines s t.type h k.type)

reification-lines : (i : Option Bytes) (s : Subject) (p : Bytes) (o : Term) → Text? i → TextSubject s → Text p → TextTerm o → All TextTriple (O.reification i s p o)
unfolding O.reification ascii every is_ascii
reification-lines none s p o t h k g = tt
reification-lines (some i) s p o t h k g =
    ((t, rdf-text "type" refl, rdf-text "Statement" refl), ((t, rdf-text "subject" refl, h), ((t, rdf-text "predicate" refl, k), ((t, rdf-text "object" refl, g), tt))))

statement-lines : (p : Property) (o : Term) → TextProperty p → TextTerm o → All TextTriple (statement p o)
unfolding statement
statement-lines p o h g = all_append TextTriple (O.reification p.id p.subject p.iri o) _ (reification-lines p.id p.subject p.iri o h.2 h.0 h.1 g) ((h.0, h.1, g), tt)

cell-lines : (n : ℕ) (rest : Subject) (cs : List Subject) → TextSubject rest → All TextSubject cs → All TextTriple (cells n rest cs)
unfolding cells ascii every is_ascii
cell-lines n rest [] h k = tt
cell-lines n rest (c ∷ cs) h k = ((tt, rdf-text "first" refl, k.0), ((tt, rdf-text "rest" refl, h), cell-lines (suc n) (blank (label (suc n))) cs tt k.1))

head-cell : (n : ℕ) (rest : Subject) (cs : List Subject) → TextSubject rest → TextSubject (head_cell n rest cs)
unfolding head_cell
head-cell n rest [] h = h
head-cell n rest (c ∷ cs) h = head-cell (suc n) (blank (label (suc n))) cs tt

-- ---- the productions

abbrev TextOpened : Opened → Type 0
TextOpened o = All TextTriple o.lines × TextKind o.kind

subject-text : (i l : Option Bytes) (g : Bytes) → Text? i → TextSubject (O.subject_of i l g)
unfolding O.subject_of
subject-text (some i) l g t = t
subject-text none (some l) g t = tt
subject-text none none g t = tt

type_text : (i : Bytes) → Text i → Text? (O.element_type i)
unfolding O.element_type when◌then◌else◌
type_text i t = go (same i (rdf "Description"))
  where
    go : (b : Bool) → Text? (when b then none else some i)
    go true = tt
    go false = t

open_node_lem : (t : Tag) (n : ℕ) → TextTag t → Always TextOpened (open_node t n)
unfolding open_node
open_node_lem t n h =
    let s = subject-text (or_else t.id t.about) t.node_id (label (suc n)) (or_else_lem t.id t.about h.id h.about) in
    always_require TextOpened _ _ _ λ e₁.
    always_require TextOpened _ _ _ λ e₂.
    always_after TextOpened _ _ (all_append TextTriple (tag_lines _ t) (type_line _ _) (tag-lines _ t s h) (type_lines _ _ s (type_text t.iri h.iri)), s)

object-text : (r l : Option Bytes) (n : ℕ) → Text? r → Always (λ o. TextSubject o.0) (O.object_of r l n)
unfolding O.object_of
object-text (some r) l n t = t
object-text none (some l) n t = tt
object-text none none n t = always_after (λ o. TextSubject o.0) _ _ tt

open_default_lem : (t : Tag) (p : Property) (n : ℕ) → TextTag t → TextProperty p → Always TextOpened (O.open_default t p n)
unfolding O.open_default O.open_with_node
open_default_lem t p n h k =
    always_if TextOpened _ _ _
    (λ e. always_bind (λ o. TextSubject o.0) TextOpened _ _ (object-text t.resource t.node_id n h.resource) λ o s. (tag-lines _ t s h, (k, (h.datatype, s))))
    (λ e. (tt, (k, (h.datatype, tt))))

open_resource_lem : (p : Property) (n : ℕ) → TextProperty p → Always TextOpened (O.open_resource p n)
unfolding O.open_resource
open_resource_lem p n k = always_after TextOpened _ _ (statement-lines p _ k tt, tt)

open_as_lem : (a : ParseType) (t : Tag) (p : Property) (n : ℕ) → TextTag t → TextProperty p → Always TextOpened (O.open_as a t p n)
unfolding O.open_as O.open_with
open_as_lem no_parse_type t p n h k = open_default_lem t p n h k
open_as_lem as_collection t p n h k = (tt, (k, tt))
open_as_lem as_resource t p n h k = open_resource_lem p n k
open_as_lem as_literal t p n h k = (tt, (k, empty-text))
open_as_lem as_other t p n h k = (tt, (k, tt))

drop_zeros_lem : (p : ℕ → Bool) (s : Bytes) → every p s ≡ true → every p (drop_zeros s) ≡ true
unfolding drop_zeros every byte
drop_zeros_lem p [] h = refl
drop_zeros_lem p (c ∷ s) h = go (eqb c 48) (drop_zeros_lem p s (and_right (p c) (every p s) h))
  where
    go : (b : Bool) → every p (drop_zeros s) ≡ true → every p (elim b [ true ↦ drop_zeros s | false ↦ c ∷ s ]) ≡ true
    go true k = k
    go false k = h

decimal-text : (n : ℕ) → Text (decimal n)
unfolding decimal
decimal-text n = ascii-text _ (drop_zeros_lem is_ascii (digits 20 n) (ascii-digits 20 n))

property-text : (i : Bytes) (k : ℕ) → Text i → Text (O.property_iri i k)
unfolding O.property_iri when◌then◌else◌ ascii every is_ascii
property-text i k t = go (O.is_li i)
  where
    go : (b : Bool) → Text (when b then rdf "_" ++ decimal k else i)
    go true = join (rdf-text "_" refl) (decimal-text k)
    go false = t

open_property_lem : (t : Tag) (s : Subject) (li n : ℕ) → TextTag t → TextSubject s → Always TextOpened (open_property t s li n)
unfolding open_property
open_property_lem t s li n h k =
    always_require TextOpened _ _ _ λ e₁.
    always_require TextOpened _ _ _ λ e₂.
    always_after TextOpened _ _ (open_as_lem _ t _ n h (k, property-text t.iri (suc li) h.iri, h.id))

open_root_lem : (t : Tag) (n : ℕ) → TextTag t → Always TextOpened (open_root t n)
unfolding open_root
open_root_lem t n h = always_if TextOpened _ _ _ (λ e. (tt, tt)) (λ e. open_node_lem t n h)

-- ---- start tags

counted-kind : (i : Bytes) (k : Kind) → TextKind k → TextKind (G.counted i k)
unfolding G.counted
counted-kind i rdf_rdf h = h
counted-kind i (wrapper b) h = h
counted-kind i (node_element s li) h = h
counted-kind i (property_element p v) h = h
counted-kind i xml_element h = h

counted_frames : (i : Bytes) (n : Part → Part) (fs : List Frame) → All TextFrame fs → All TextFrame (G.count_li i n fs)
unfolding G.count_li with_kind with_part
counted_frames i n [] h = tt
counted_frames i n (f ∷ fs) h = ((h.0.0, h.0.1, counted-kind i f.kind h.0.2), h.1)

open_element_lem : (production : Tag → ℕ → Answer Opened) (m : Bytes) (as' : List Attribute) (d : Doc) → Text m → All TextAttribute as' → TextDoc d
    → ((t : Tag) → TextTag t → Always TextOpened (production t d.labels)) → Always TextStep (G.open_element production m as' d)
unfolding G.open_element G.opened
open_element_lem production m as' d t h k f =
    always_bind TextTag TextStep _ _ (tag-text m as' d t h k) λ tag g.
    always_bind TextOpened TextStep _ _ (always_rules TextOpened _ _ (f tag g)) λ o r.
    always_require TextStep _ _ _ λ e. (r.0, (k.0, ((g.bindings, g.own_base, r.1), counted_frames tag.iri _ d.frames k.1)))

-- ---- XML text

-- a branch that keeps to bytes below 128
low_if : (b : Bool) (x y : Bytes) → every is_ascii x ≡ true → every is_ascii y ≡ true → every is_ascii (when b then x else y) ≡ true
unfolding when◌then◌else◌
low_if true x y h k = h
low_if false x y h k = k

alone_low : (b : ℕ) → is_ascii b ≡ true → every is_ascii (b ∷ []) ≡ true
unfolding every
alone_low b h = rw h

text-byte_low : (b : ℕ) → is_ascii b ≡ true → every is_ascii (text_byte b) ≡ true
unfolding text_byte ascii every is_ascii
text-byte_low b h =
    low_if _ (ascii "&amp;") _ refl (low_if _ (ascii "&lt;") _ refl (low_if _ (ascii "&gt;") _ refl (low_if _ (ascii "&quot;") _ refl (low_if _ (ascii "&apos;") _ refl (alone_low b h)))))

value-byte_low : (b : ℕ) → is_ascii b ≡ true → every is_ascii (value_byte b) ≡ true
unfolding value_byte ascii every is_ascii
value-byte_low b h =
    low_if _ (ascii "&amp;") _ refl (low_if _ (ascii "&lt;") _ refl (low_if _ (ascii "&quot;") _ refl
    (low_if _ (ascii "&#x9;") _ refl (low_if _ (ascii "&#xA;") _ refl (low_if _ (ascii "&#xD;") _ refl (alone_low b h))))))

other_byte : (b n : ℕ) → 128 ≤ b → n < 128 → eqb b n ≡ false
other_byte b n p q = ne_eqb b n λ e. omega arith

text-byte_high : (b : ℕ) → 128 ≤ b → text_byte b ≡ b ∷ []
unfolding text_byte B.all
text-byte_high b le =
    simp (other_byte b 38 le (omega arith), other_byte b 60 le (omega arith), other_byte b 62 le (omega arith), other_byte b 34 le (omega arith), other_byte b 39 le (omega arith))

value-byte_high : (b : ℕ) → 128 ≤ b → value_byte b ≡ b ∷ []
unfolding value_byte B.all
value-byte_high b le =
    simp (other_byte b 38 le (omega arith), other_byte b 60 le (omega arith), other_byte b 34 le (omega arith), other_byte b 9 le (omega arith), other_byte b 10 le (omega arith), other_byte b 13 le (omega arith))

text_xml_lem : (s : Bytes) → Text s → Text (text_xml s)
unfolding text_xml
text_xml_lem s t = coded-text text_byte text-byte_low text-byte_high s t

attribute_xml_lem : (a : Attribute) → TextAttribute a → Text (attribute_xml a)
unfolding attribute_xml ascii every is_ascii
attribute_xml_lem (attribute n v) t =
    join (ascii-text (ascii " ") refl) (join t.0 (join (ascii-text (ascii "=\"") refl) (join (coded-text value_byte value-byte_low value-byte_high v t.1) (ascii-text (ascii "\"") refl))))

attributes_xml_lem : (as' : List Attribute) → All TextAttribute as' → Text (attributes_xml as')
unfolding attributes_xml
attributes_xml_lem [] h = empty-text
attributes_xml_lem (a ∷ as') h = join (attribute_xml_lem a h.0) (attributes_xml_lem as' h.1)

start_xml : (n : Bytes) (as' : List Attribute) → Text n → All TextAttribute as' → Text (start_tag_xml n as')
unfolding start_tag_xml ascii every is_ascii
start_xml n as' t h = join (ascii-text (ascii "<") refl) (join t (join (attributes_xml_lem as' h) (ascii-text (ascii ">") refl)))

end_xml : (n : Bytes) → Text n → Text (end_tag_xml n)
unfolding end_tag_xml ascii every is_ascii
end_xml n t = join (ascii-text (ascii "</") refl) (join t (ascii-text (ascii ">") refl))

on_value_lem : (g : Value → Value) (k : Kind) → ((v : Value) → TextValue v → TextValue (g v)) → TextKind k → TextKind (on_value g k)
unfolding on_value
on_value_lem g rdf_rdf f h = h
on_value_lem g (wrapper b) f h = h
on_value_lem g (node_element s li) f h = h
on_value_lem g (property_element p v) f h = (h.0, f v h.1)
on_value_lem g xml_element f h = h

change_value_lem : (g : Value → Value) (fs : List Frame) → ((v : Value) → TextValue v → TextValue (g v)) → All TextFrame fs → All TextFrame (change_value g fs)
unfolding change_value with_kind when◌then◌else◌
change_value_lem g [] f h = tt
change_value_lem g (x ∷ fs) f h = go (is_xml_element x.kind) (change_value_lem g fs f h.1)
  where
    go : (b : Bool) → All TextFrame (change_value g fs) → All TextFrame (when b then x ∷ change_value g fs else with_kind (on_value g x.kind) x ∷ fs)
    go true k = (h.0, k)
    go false k = ((h.0.0, h.0.1, on_value_lem g x.kind f h.0.2), h.1)

takes_xml_lem : (x : Bytes) → Text x → (v : Value) → TextValue v → TextValue (takes_xml x v)
unfolding takes_xml
takes_xml_lem x t (default d o) h = h
takes_xml_lem x t (collection cs) h = h
takes_xml_lem x t (literal y) h = join h t
takes_xml_lem x t other h = h

copy_element_lem : (m : Bytes) (as' : List Attribute) (d : Doc) → Text m → All TextAttribute as' → TextDoc d → Always TextStep (G.copy_element m as' d)
unfolding G.copy_element with_frames add_xml
copy_element_lem m as' d t h k =
    always_require TextStep _ _ _ λ e.
    always_after TextStep _ _ (tt, (k.0, ((declared-text as' h, tt, tt), change_value_lem _ d.frames (takes_xml_lem _ (start_xml m as' t h)) k.1)))

-- ---- by place

abbrev TextPlace : Place → Type 0
TextPlace outside = Unit {0}
TextPlace nodes = Unit {0}
TextPlace nodes_or_text = Unit {0}
TextPlace xml = Unit {0}
TextPlace (properties s li) = TextSubject s

in_value_lem : (v : Value) → TextPlace (in_value v)
unfolding in_value
in_value_lem (default d o) = tt
in_value_lem (collection cs) = tt
in_value_lem (literal x) = tt
in_value_lem other = tt

in_kind_lem : (k : Kind) → TextKind k → TextPlace (in_kind k)
unfolding in_kind
in_kind_lem rdf_rdf h = tt
in_kind_lem (wrapper b) h = tt
in_kind_lem (node_element s li) h = h
in_kind_lem (property_element p v) h = in_value_lem v
in_kind_lem xml_element h = tt

place_in_lem : (fs : List Frame) → All TextFrame fs → TextPlace (place_in fs)
unfolding place_in
place_in_lem [] h = tt
place_in_lem (f ∷ fs) h = in_kind_lem f.kind h.0.2

open_in_lem : (p : Place) (m : Bytes) (as' : List Attribute) (d : Doc) → TextPlace p → Text m → All TextAttribute as' → TextDoc d → Always TextStep (G.open_in p m as' d)
unfolding G.open_in open_wrapper wrapped
open_in_lem outside m as' d s t h k =
    always_if TextStep _ _ _ (λ w. always_after TextStep _ _ (always_after TextStep _ _ (tt, (k.0, ((declared-text as' h, tt, tt), k.1)))))
    λ w. open_element_lem open_root m as' d t h k λ tag. open_root_lem tag d.labels
open_in_lem nodes m as' d s t h k = open_element_lem open_node m as' d t h k λ tag. open_node_lem tag d.labels
open_in_lem nodes_or_text m as' d s t h k = open_element_lem open_node m as' d t h k λ tag. open_node_lem tag d.labels
open_in_lem xml m as' d s t h k = copy_element_lem m as' d t h k
open_in_lem (properties u li) m as' d s t h k = open_element_lem (λ tag. open_property tag u li) m as' d t h k λ tag g. open_property_lem tag u li d.labels g s

on_opening_lem : (m : Bytes) (as' : List Attribute) (d : Doc) → Text m → All TextAttribute as' → TextDoc d → Always TextStep (G.on_opening m as' d)
unfolding G.on_opening
on_opening_lem m as' d t h k =
    always_require TextStep _ _ _ λ e₁.
    always_require TextStep _ _ _ λ e₂.
    open_in_lem (place_in d.frames) m as' d (place_in_lem d.frames k.1) t h k

-- ---- end tags

takes_node_lem : (s : Subject) → TextSubject s → (v : Value) → TextValue v → TextValue (C.takes_node s v)
unfolding C.takes_node
takes_node_lem s g (default d o) h = (h.0, g)
takes_node_lem s g (collection cs) h = (g, h)
takes_node_lem s g (literal x) h = h
takes_node_lem s g other h = h

object_term_lem : (d : Option Bytes) (l : Language) (o : Object) → Text? d → TextObject o → TextTerm (C.object_term d l o)
unfolding C.object_term
object_term_lem d l no_object h g = literal_text d l [] h empty-text
object_term_lem d l (node_object s) h g = g
object_term_lem d l (text_object t) h g = literal_text d l t h g

end_value_lem : (p : Property) (v : Value) (l : Language) (d : Doc) → TextProperty p → TextValue v → TextDoc d → Always TextStep (C.end_value p v l d)
unfolding C.end_value with_labels ascii every is_ascii
end_value_lem p (default t o) l d h g k = (statement-lines p _ h (object_term_lem t l o g.0 g.1), k)
end_value_lem p (collection cs) l d h g k =
    always_require TextStep _ _ _ λ e.
    (all_append TextTriple (cells _ _ cs) _ (cell-lines d.labels _ cs (rdf-text "nil" refl) g) (statement-lines p _ h (head-cell d.labels _ cs (rdf-text "nil" refl))), k)
end_value_lem p (literal x) l d h g k = always_require TextStep _ _ _ λ e. (statement-lines p _ h (g, rdf-text "XMLLiteral" refl), k)
end_value_lem p other l d h g k = (tt, k)

end_kind_lem : (k : Kind) (m : Bytes) (l : Language) (d : Doc) → TextKind k → Text m → TextDoc d → Always TextStep (C.end_kind k m l d)
unfolding C.end_kind with_frames add_xml
end_kind_lem rdf_rdf m l d g t h = (tt, h)
end_kind_lem (wrapper b) m l d g t h = always_after TextStep _ _ (tt, h)
end_kind_lem (node_element s li) m l d g t h = (tt, (h.0, change_value_lem _ d.frames (takes_node_lem s g) h.1))
end_kind_lem (property_element p v) m l d g t h = end_value_lem p v l d g.0 g.1 h
end_kind_lem xml_element m l d g t h = (tt, (h.0, change_value_lem _ d.frames (takes_xml_lem _ (end_xml m t)) h.1))

close_element_lem : (m : Bytes) (fs : List Frame) (d : Doc) → Text m → Text? d.start_base → All TextFrame fs → Always TextStep (C.close_element m fs d)
unfolding C.close_element with_frames
close_element_lem m [] d t b h = tt
close_element_lem m (f ∷ fs) d t b h = always_require TextStep _ _ _ λ e. end_kind_lem f.kind m _ (with_frames fs d) h.0.2 t (b, h.1)

-- ---- text

takes_text_lem : (s : Bytes) → Text s → (v : Value) → TextValue v → TextValue (X.takes_text s v)
unfolding X.takes_text
takes_text_lem s t (default d o) h = (h.0, t)
takes_text_lem s t (collection cs) h = h
takes_text_lem s t (literal x) h = h
takes_text_lem s t other h = h

on_text_lem : (p : Place) (v : Bytes) (d : Doc) → Text v → TextDoc d → Always TextStep (X.on_text p v d)
unfolding X.on_text with_frames when◌then◌else◌ add_xml
on_text_lem outside v d t h = always_require TextStep _ _ _ λ e. (tt, h)
on_text_lem nodes v d t h = always_require TextStep _ _ _ λ e. (tt, h)
on_text_lem (properties s li) v d t h = always_require TextStep _ _ _ λ e. (tt, h)
on_text_lem nodes_or_text v d t h = go (X.is_blank v)
  where
    go : (b : Bool) → TextStep ([], (when b then d else with_frames (change_value (X.takes_text v) d.frames) d))
    go true = (tt, h)
    go false = (tt, (h.0, change_value_lem _ d.frames (takes_text_lem v t) h.1))
on_text_lem xml v d t h = (tt, (h.0, change_value_lem _ d.frames (takes_xml_lem _ (text_xml_lem v t)) h.1))

on_event_lem : (e : Event) (d : Doc) → TextEvent e → TextDoc d → Always TextStep (X.on_event e d)
unfolding X.on_event
on_event_lem (opening m as') d t h = on_opening_lem m as' d t.0 t.1 h
on_event_lem (closing m) d t h = close_element_lem m d.frames d t h.0 h.1
on_event_lem (text v) d t h = on_text_lem (place_in d.frames) v d t h
on_event_lem instruction d t h = (tt, h)

-- an accepted event of texts keeps a document of texts, and writes texts
pub step-text : (e : Event) (d : Doc) → TextEvent e → TextDoc d → Always TextStep (next e d)
unfolding next X.within
step-text e d t h = always_bind TextStep TextStep _ _ (on_event_lem e d t h) λ s k. always_require TextStep _ _ _ λ g. k
