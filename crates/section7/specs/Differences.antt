-- Where the reader gives something else for a tree that section 7 accepts: one clause for each difference, under its name
-- in docs/DIFFERENCES.md; a comment says what section 7 has, and then what the reader does. Differing has an input for each.
use Rattle.std.specs.Prelude.{◌≡◌, Bool, true, false, ◌&&◌, ◌||◌, not, List, [], ◌∷◌, ◌++◌, map}
use Rattle.std.proofs.Math.Option.{Option, none, some}
use Prim.Native.String.{String}
use Rattle.spec.specs.Bytes.{Bytes, ascii, when◌then◌else◌, same, begins, is_empty, is_some, repeats, those, All}
use Rattle.spec.specs.Numbers.{good}
use Rattle.spec.specs.XmlNames.{prefix_of, local_of}
use Rattle.spec.specs.Rfc3987.{is_iri}
use Rattle.spec.specs.Rfc5646.{is_language_tag}
use Rattle.spec.specs.Pyx.{Attribute, attribute, Event, opening, closing, text}
use Rattle.spec.specs.Pyx as P
use Rattle.spec.specs.Namespaces.{Binding, declared, name_of, namespace, joined, repeats_expanded}
use Rattle.spec.specs.Rdf.{rdf}
use Rattle.spec.specs.StartTag.{resolved, is_generated, ends_in_stop}
use Rattle.spec.specs.XmlLiteral.{start_tag_xml, end_tag_xml, text_xml}
use Rattle.section7.specs.Events.{Content, end, characters, instruction, comment, element, events, text_of_content, Context, written, inside, AttributeEvent, uri_of, is_reserved_term}
use Rattle.section7.specs.Canonical.{canonical}
use Rattle.section7.specs.Grammar.{value, attrs, node_id, literal_attribute, parse_other, is_space_text, Identifier, iri_of_identifier, Used, outermost}
use Rattle.section7.specs.Grammar as G

-- ---- what the clauses speak of

-- the text events among some events
unfoldable pub texts : List Event → List Bytes
texts [] = []
texts (opening n as' ∷ es) = texts es
texts (closing n ∷ es) = texts es
texts (text s ∷ es) = s ∷ texts es
texts (P.instruction ∷ es) = texts es

-- an XML literal as document 01 writes it
unfoldable pub xml_text : Content → Bytes
xml_text end = []
xml_text (characters s following) = text_xml s ++ xml_text following
xml_text (instruction s following) = xml_text following
xml_text (comment s following) = xml_text following
xml_text (element n as' children following) =
    start_tag_xml n as' ++ (xml_text children ++ (end_tag_xml n ++ xml_text following))

-- of the attribute with this name as written
unfoldable pub says : String → (Bytes → Bool) → Attribute → Bool
says m test (attribute n v) = when same n (ascii m) then test v else true

-- rdf:nodeID, as a label
unfoldable pub is_free_label : AttributeEvent → Bool
is_free_label a = when same a.0 (rdf "nodeID") then not (ends_in_stop a.1) && not (is_generated a.1) else true

-- ---- of a start tag

pub record NoDifferenceInTag (c : Context) (as' : List Attribute) : Type 0 where
  -- 6.1.4: `about` and four more are read without a prefix; 8
  pub names-without_prefix : All (λ a. (is_reserved_term (name_of a) || not (is_empty (prefix_of (name_of a)))) ≡ true) as'
  -- 6.1.2: names that begin `XML` are removed; properties
  pub names_in_capitals : All (λ a. (not (is_reserved_term (name_of a)) || begins (ascii "xml") (name_of a)) ≡ true) as'
  -- two names whose namespace and local name, joined, are one text are two names; 6
  pub joined-names : repeats_expanded (declared as' ++ c.bindings) as' ≡ false
  -- a language is any text; 10 unless it is a tag of RFC 5646 or empty
  pub other-language : All (λ a. says "xml:lang" (λ v. is_empty v || is_language_tag v) a ≡ true) as'
  -- 5.3: a relative xml:base is resolved; 11
  pub relative_base : All (λ a. says "xml:base" is_iri a ≡ true) as'
  -- 5.3: dot segments of xml:base are removed; kept
  pub dots_in_base : resolved c.base_uri (written (ascii "xml:base") as') ≡ good (written (ascii "xml:base") as')
  -- labels are any NCName; 13
  pub refused-label : All (λ a. is_free_label a ≡ true) (attrs c as')

-- ---- of a property element

abbrev pub parse_type : Context → List Attribute → Option Bytes
parse_type c as' = value (rdf "parseType") (attrs c as')

-- a test of what may be missing
unfoldable pub if_any : Option Bytes → (Bytes → Bool) → Bool
if_any none test = true
if_any (some v) test = test v

-- 7.2.16: the text of a property without rdf:parseType
unfoldable pub literal_text : Option Bytes → Option Bytes → Option Bytes
literal_text (some v) t = none
literal_text none none = none
literal_text none (some t) = when is_empty t then none else some t

-- one text, and this
unfoldable pub is_one : Bytes → List Bytes → Bool
is_one t [] = false
is_one t (s ∷ []) = same s t
is_one t (s ∷ r ∷ l) = false

unfoldable pub is_literal_type : Option Bytes → Bool
is_literal_type none = false
is_literal_type (some v) = same v (ascii "Literal")

pub record NoDifferenceInProperty (c : Context) (as' : List Attribute) (children : Content) : Type 0 where
  -- 7.2.16: white space is a literal; the empty one
  pub blank_text : if_any (literal_text (parse_type c as') (text_of_content children)) (λ t. not (is_space_text t)) ≡ true
  -- 6: text on both sides of an instruction is one; the last piece
  pub divided_text :
      if_any (literal_text (parse_type c as') (text_of_content children)) (λ t. is_one t (texts (events children))) ≡ true
  -- 7.2.21: rdf:type, the only property attribute, is of a node; nothing
  pub type_alone :
      (is_some (parse_type c as') || (is_some (value (rdf "resource") (attrs c as')) || (is_some (node_id c as')
      || (not (is_empty (those literal_attribute (attrs c as')))
      || not (is_some (value (rdf "type") (attrs c as'))))))) ≡ true
  -- 7.2.20: as Literal; nothing
  pub other-parse_type : if_any (parse_type c as') (λ v. not (parse_other v)) ≡ true
  -- 7.2.17: the empty XML literal; 17
  pub empty-literal : (not (is_literal_type (parse_type c as')) || not (is_empty (xml_text children))) ≡ true
  -- 7.2.17: the canonical form; as document 01 writes it
  pub xml_literal :
      (not (is_literal_type (parse_type c as')) || same (canonical (declared as' ++ c.bindings) [] children) (xml_text children))
      ≡ true

-- ---- of a tree

-- what stands here: the root, node elements, property elements, XML content
pub data Place : Type 0 where
  document nodes properties xml : Place

-- what stands inside an element there, by its URI and its rdf:parseType
unfoldable pub by_parse_type : Option Bytes → Place
by_parse_type none = nodes
by_parse_type (some v) =
    when same v (ascii "Resource") then properties else when same v (ascii "Collection") then nodes else xml

unfoldable pub place_under : Place → Bytes → Option Bytes → Place
place_under document uri p = when same uri (rdf "RDF") then nodes else properties
place_under nodes uri p = properties
place_under properties uri p = by_parse_type p
place_under xml uri p = xml

-- an element's URI
unfoldable pub element_uri : List Binding → Bytes → Bytes
element_uri bs n = uri_of (joined (namespace bs (prefix_of n)) (local_of n))

-- of an element, by where it stands
abbrev pub NoDifferenceIn : Place → Context → List Attribute → Content → Type 0
NoDifferenceIn document c as' children = NoDifferenceInTag c as'
NoDifferenceIn nodes c as' children = NoDifferenceInTag c as'
NoDifferenceIn properties c as' children = NoDifferenceInTag c as' × NoDifferenceInProperty c as' children
NoDifferenceIn xml c as' children = Unit {0}

-- of every element
abbrev pub NoDifference : Place → Context → Content → Type 0
NoDifference p c end = Unit {0}
NoDifference p c (characters s following) = NoDifference p c following
NoDifference p c (instruction s following) = NoDifference p c following
NoDifference p c (comment s following) = NoDifference p c following
NoDifference p c (element n as' children following) =
    NoDifferenceIn p c as' children
    × NoDifference (place_under p (element_uri (declared as' ++ c.bindings) n) (parse_type c as')) (inside as' c) children
    × NoDifference p c following

-- each rdf:ID is another IRI
abbrev pub OneIriEach : List Identifier → Type 0
OneIriEach ids = repeats (map iri_of_identifier ids) ≡ false

-- of a document with this base, that uses these rdf:IDs
pub record NoDifferences (b : Option Bytes) (x : Content) (u : Used) : Type 0 where
  pub in_elements : NoDifference document (outermost b) x
  -- constraint_id: two pairs of a base and an rdf:ID are two; 12 where they are one IRI
  pub ids_of_one_iri : OneIriEach u.ids

unfoldable pub all : Unit {0}
unfolding G.all texts xml_text says is_free_label if_any literal_text is_one is_literal_type by_parse_type place_under element_uri
all = tt
