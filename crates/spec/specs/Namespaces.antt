-- Namespaces in XML 1.0, as document 01 uses it: bindings, expanded names, repeated attributes.
use Rattle.std.specs.Prelude.{Bool, true, ◌&&◌, ◌||◌, not, List, [], ◌∷◌, ◌++◌, map}
use Rattle.std.proofs.Math.Option.{Option, none, some}
use Rattle.spec.specs.Bytes.{Bytes, ascii, when◌then◌else◌, same, begins, after, those, is_empty, is_some, present, repeats, ◌>>◌, require◌or◌}
use Rattle.spec.specs.Bytes as B
use Rattle.spec.specs.Numbers.{Answer, refuse, good}
use Rattle.spec.specs.declared.Refusal.TheVariants.{NoNamespace}
use Rattle.spec.specs.XmlNames.{prefix_of, local_of}
use Rattle.spec.specs.XmlNames as X
use Rattle.spec.specs.Pyx.{Attribute, attribute}

unfoldable pub name_of : Attribute → Bytes
name_of (attribute n v) = n

-- a prefix, empty for the default, and its namespace
abbrev pub Binding : Type 0
Binding = Bytes × Bytes

-- section 3, "Reserved Prefixes and Namespace Names"
unfoldable pub xml_name : Bytes
xml_name = ascii "http://www.w3.org/XML/1998/namespace"

unfoldable pub xmlns_name : Bytes
xmlns_name = ascii "http://www.w3.org/2000/xmlns/"

-- ---- declarations

-- `xmlns` declares the default, `xmlns:p` the prefix p
unfoldable pub is_declaration : Attribute → Bool
is_declaration (attribute n v) = same n (ascii "xmlns") || begins (ascii "xmlns:") n

-- what a declaration binds
unfoldable pub declares : Attribute → Binding
declares (attribute n v) = (after (ascii "xmlns:") n, v)

-- the bindings that a start tag declares
unfoldable pub declared : List Attribute → List Binding
declared as' = map declares (those is_declaration as')

-- section 3: `xmlns` is never declared, `xml` only as what it is, the two names for no other prefix, and no prefix empty
unfoldable pub is_legal : Binding → Bool
is_legal (p, ns) =
    when same p (ascii "xml") then same ns xml_name else
    not (same p (ascii "xmlns")) && (not (same ns xml_name) && (not (same ns xmlns_name) && (is_empty p || not (is_empty ns))))

-- 6, "illegal xmlns"
unfoldable pub all_legal : List Binding → Bool
all_legal [] = true
all_legal (b ∷ bs) = is_legal b && all_legal bs

-- ---- expanded names

-- the first binding of a prefix
unfoldable pub look_up : Bytes → List Binding → Option Bytes
look_up p [] = none
look_up p (b ∷ bs) = when same p b.0 then some b.1 else look_up p bs

-- the namespace of a prefix, innermost binding first; `xml` is always bound
unfoldable pub namespace : List Binding → Bytes → Option Bytes
namespace bs p = when same p (ascii "xml") then some xml_name else look_up p bs

-- namespace and local name joined; none where the prefix is unknown
unfoldable pub joined : Option Bytes → Bytes → Option Bytes
joined none l = none
joined (some ns) l = some (ns ++ l)

-- an attribute without prefix has no namespace
unfoldable pub expand_attribute : List Binding → Bytes → Option Bytes
expand_attribute bs n = when is_empty (prefix_of n) then some n else joined (namespace bs (prefix_of n)) (local_of n)

-- is a name's prefix known, or has it none?
unfoldable pub is_known : List Binding → Bytes → Bool
is_known bs n = is_empty (prefix_of n) || is_some (namespace bs (prefix_of n))

-- the empty namespace is none
unfoldable pub in_namespace : Option Bytes → Bytes → Answer Bytes
in_namespace none l = refuse NoNamespace
in_namespace (some ns) l = (require not (is_empty ns) or NoNamespace) >> good (ns ++ l)

-- an element outside Literal content: 8 without a namespace
unfoldable pub expand_element : List Binding → Bytes → Answer Bytes
expand_element bs n = in_namespace (namespace bs (prefix_of n)) (local_of n)

-- an attribute in Literal content or on the wrapper: 8 for an unknown prefix
unfoldable pub known_attribute : List Binding → Attribute → Answer (Unit {0})
known_attribute bs a = require is_declaration a || is_known bs (name_of a) or NoNamespace

-- ---- repeated attributes (6)

-- the expanded names of a start tag's attributes, declarations apart
unfoldable pub expanded_names : List Binding → List Attribute → List Bytes
expanded_names bs as' = present (map (λ a. expand_attribute bs (name_of a)) (those (λ a. not (is_declaration a)) as'))

-- the names as written of the attributes with an unknown prefix
unfoldable pub unknown_names : List Binding → List Attribute → List Bytes
unknown_names bs as' = those (λ n. not (is_known bs n)) (map name_of (those (λ a. not (is_declaration a)) as'))

-- outside Literal content: by expanded names, declarations and names with an unknown prefix as written
unfoldable pub repeats_expanded : List Binding → List Attribute → Bool
repeats_expanded bs as' =
    repeats (map name_of (those is_declaration as')) || (repeats (unknown_names bs as') || repeats (expanded_names bs as'))

-- in Literal content: as written
unfoldable pub repeats_written : List Attribute → Bool
repeats_written as' = repeats (map name_of as')

unfoldable pub all : Unit {0}
unfolding B.all X.all name_of xml_name xmlns_name is_declaration declares declared is_legal all_legal look_up namespace joined expand_attribute is_known in_namespace expand_element known_attribute expanded_names unknown_names repeats_expanded repeats_written
all = tt
