-- Document 01, "Order in step": a start tag outside Literal content, read; refusals 8 to 14 in their order.
use Rattle.std.specs.Prelude.{Bool, true, false, ◌&&◌, ◌||◌, not, List, [], ◌∷◌, ◌++◌, ℕ, eqb, leb, length}
use Rattle.std.proofs.Math.Option.{Option, none, some}
use Prim.Native.String.{String}
use Rattle.spec.specs.Bytes.{Bytes, ascii, byte, when◌then◌else◌, same, begins, after, is_empty, every, member, between, or_else, present, ◌>>=◌, ◌>>◌, require◌or◌, each}
use Rattle.spec.specs.Bytes as B
use Rattle.spec.specs.Numbers.{Answer, refuse, good}
use Rattle.spec.specs.declared.Refusal.TheVariants.{BadIri, BadLabel, BadLanguage, NoNamespace, NotNcName, RepeatedId, Reserved}
use Rattle.spec.specs.Limits.{most_name_bytes}
use Rattle.spec.specs.Limits as M
use Rattle.spec.specs.XmlNames.{is_nc_name, prefix_of}
use Rattle.spec.specs.Rfc3986.{resolve, resolves}
use Rattle.spec.specs.Rfc3986 as R
use Rattle.spec.specs.Rfc3987.{is_iri, is_iri_reference}
use Rattle.spec.specs.Rfc3987 as I
use Rattle.spec.specs.XmlLang.{verdict, is_allowed, Own, own_of, Language, in_force}
use Rattle.spec.specs.XmlLang as L
use Rattle.spec.specs.Pyx.{Attribute, attribute}
use Rattle.spec.specs.Namespaces.{Binding, declared, is_declaration, expand_attribute, expand_element, expanded_names}
use Rattle.spec.specs.Namespaces as N
use Rattle.spec.specs.Document.{Doc, in_scope, language_in_force, base_in_force}
use Rattle.spec.specs.Document as D
use Rattle.spec.specs.Rdf.{rdf}
use Rattle.spec.specs.Rdf as F

-- ---- each attribute as it stands (8, 9, 13, 10, 11, 14)

-- what an attribute is there for
pub data Role : Type 0 where
  nothing xml_lang xml_base rdf_ID rdf_bag_id rdf_node_id rdf_about rdf_resource rdf_datatype rdf_parse_type rdf_type forbidden property : Role

unfoldable pub role_number : Role → ℕ
role_number nothing = 0
role_number xml_lang = 1
role_number xml_base = 2
role_number rdf_ID = 3
role_number rdf_bag_id = 4
role_number rdf_node_id = 5
role_number rdf_about = 6
role_number rdf_resource = 7
role_number rdf_datatype = 8
role_number rdf_parse_type = 9
role_number rdf_type = 10
role_number forbidden = 11
role_number property = 12

unfoldable pub same_role : Role → Role → Bool
same_role a b = eqb (role_number a) (role_number b)

-- the names of the rdf namespace that are no properties; four are reserved
unfoldable pub rdf_roles : List (String × Role)
rdf_roles =
    ("ID", rdf_ID) ∷ ("bagID", rdf_bag_id) ∷ ("nodeID", rdf_node_id) ∷ ("about", rdf_about) ∷ ("resource", rdf_resource) ∷ ("datatype", rdf_datatype) ∷
    ("parseType", rdf_parse_type) ∷ ("type", rdf_type) ∷
    ("aboutEach", forbidden) ∷ ("aboutEachPrefix", forbidden) ∷ ("li", forbidden) ∷ ("RDF", forbidden) ∷ []

-- any other name is a property
unfoldable pub role_among : List (String × Role) → Bytes → Role
role_among [] i = property
role_among (r ∷ rs) i = when same i (rdf r.0) then r.1 else role_among rs i

-- by the name as written and the expanded name: names that begin `xml` are not properties
unfoldable pub role_of : Bytes → Bytes → Role
role_of n i =
    when same n (ascii "xml:lang") then xml_lang else
    when same n (ascii "xml:base") then xml_base else
    when begins (ascii "xml") n then nothing else role_among rdf_roles i

-- 13: `riog` and eight digits
unfoldable pub is_generated : Bytes → Bool
is_generated s = begins (ascii "riog") s && eqb (length s) 12 && every (between (byte "0") (byte "9")) (after (ascii "riog") s)

-- 13: a full stop at the end
unfoldable pub ends_in_stop : Bytes → Bool
ends_in_stop [] = false
ends_in_stop (c ∷ []) = eqb c (byte ".")
ends_in_stop (c ∷ d ∷ s) = ends_in_stop (d ∷ s)

-- is a value good in its role?
unfoldable pub judge : Role → Bytes → Answer (Unit {0})
judge nothing v = good tt
judge xml_lang v = require is_allowed (verdict v) or BadLanguage
judge xml_base v = require is_iri v or BadIri
judge rdf_ID v = require is_nc_name v or NotNcName
judge rdf_bag_id v = require is_nc_name v or NotNcName
judge rdf_node_id v = (require is_nc_name v or NotNcName) >> (require not (ends_in_stop v) && not (is_generated v) or BadLabel)
judge rdf_about v = good tt
judge rdf_resource v = good tt
judge rdf_datatype v = good tt
judge rdf_parse_type v = good tt
judge rdf_type v = good tt
judge forbidden v = refuse Reserved
judge property v = good tt

-- an attribute's role, expanded name and value
pub data Meaning : Type 0 where
  means : Role → Bytes → Bytes → Meaning

-- 8: unknown prefix, or no prefix and a name that does not begin `xml`
unfoldable pub known : Bytes → Option Bytes → Answer Bytes
known n none = refuse NoNamespace
known n (some i) = (require not (is_empty (prefix_of n)) || begins (ascii "xml") n or NoNamespace) >> good i

-- an attribute judged: 8, then by its role
unfoldable pub meaning : List Binding → Attribute → Answer Meaning
meaning bs (attribute n v) =
    when is_declaration (attribute n v) then good (means nothing n v) else do
      i ← known n (expand_attribute bs n)
      judge (role_of n i) v
      good (means (role_of n i) i v)

-- ---- values

-- the value of the first attribute in a role
unfoldable pub first : Role → List Meaning → Option Bytes
first r [] = none
first r (means q i v ∷ ms) = when same_role r q then some v else first r ms

-- the property attributes: IRI and value
unfoldable pub property_attributes : List Meaning → List (Bytes × Bytes)
property_attributes [] = []
property_attributes (means q i v ∷ ms) = when same_role property q then ((i, v) ∷ property_attributes ms) else property_attributes ms

-- 11: a reference against a base, or without one an IRI; none stays none
unfoldable pub resolved : Option Bytes → Option Bytes → Answer (Option Bytes)
resolved b none = good none
resolved none (some r) = (require is_iri r or BadIri) >> good (some r)
resolved (some b) (some r) = (require is_iri_reference r && resolves b r or BadIri) >> good (some (resolve b r))

-- rdf:ID resolves "#" and the value
unfoldable pub with_hash : Option Bytes → Option Bytes
with_hash none = none
with_hash (some i) = some (byte "#" ∷ i)

-- 12: an earlier accepted event had the same
unfoldable pub is_unused : Option Bytes → List Bytes → Bool
is_unused none ids = true
is_unused (some i) ids = not (member i ids)

-- ---- a start tag, read: everything that a production looks at

-- its name, IRI, bindings, expanded attribute names; then what its attributes say
pub record Tag : Type 0 where
  pub name : Bytes
  pub iri : Bytes
  pub bindings : List Binding
  pub names : List Bytes
  pub own_base : Option Bytes
  pub own_tag : Own
  pub language : Language
  pub node_id : Option Bytes
  pub parse_type : Option Bytes
  pub attributes : List (Bytes × Bytes)
  pub id : Option Bytes
  pub about : Option Bytes
  pub resource : Option Bytes
  pub datatype : Option Bytes
  pub type : Option Bytes

-- 8 for the element, each attribute, rdf:ID (11, 12), about, resource, datatype, type (11)
unfoldable pub read_tag : Bytes → List Attribute → Doc → Answer Tag
read_tag n as' d = do
  let bs = declared as'
  let scope = bs ++ in_scope d.frames
  i ← expand_element scope n
  ms ← each (meaning scope) as'
  let base = or_else (first xml_base ms) (base_in_force d.start_base d.frames)
  let tag = own_of (first xml_lang ms)
  id' ← resolved base (with_hash (first rdf_ID ms))
  require is_unused id' d.ids or RepeatedId
  about' ← resolved base (first rdf_about ms)
  resource' ← resolved base (first rdf_resource ms)
  datatype' ← resolved base (first rdf_datatype ms)
  type' ← resolved base (first rdf_type ms)
  good (record {
    name = n;
    iri = i;
    bindings = bs;
    names = expanded_names scope as';
    own_base = first xml_base ms;
    own_tag = tag;
    language = in_force tag (language_in_force d.frames);
    node_id = first rdf_node_id ms;
    parse_type = first rdf_parse_type ms;
    attributes = property_attributes ms;
    id = id';
    about = about';
    resource = resource';
    datatype = datatype';
    type = type';
  })

-- "any expanded name, IRI or base 1,024 bytes"
unfoldable pub all_short : List Bytes → Bool
all_short [] = true
all_short (s ∷ l) = leb (length s) most_name_bytes && all_short l

-- of a start tag: its expanded names, and the IRIs that it names
unfoldable pub is_short : Tag → Bool
is_short t =
    all_short (t.iri ∷ t.names ++ present (t.own_base ∷ t.id ∷ t.about ∷ t.resource ∷ t.datatype ∷ t.type ∷ []))

unfoldable pub all : Unit {0}
unfolding B.all M.all R.all I.all L.all N.all D.all F.all role_number same_role rdf_roles role_among role_of is_generated ends_in_stop judge known meaning first property_attributes resolved with_hash is_unused read_tag all_short is_short
all = tt
