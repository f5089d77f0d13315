-- Exclusive XML Canonicalization 1.0, with comments and no inclusive prefixes: the text of an XML literal (7.2.17).
use Rattle.std.specs.Prelude.{Bool, true, false, ◌&&◌, ◌||◌, not, List, [], ◌∷◌, ◌++◌, map, ℕ, eqb, ltb}
use Rattle.spec.specs.Bytes.{Bytes, ascii, byte, when◌then◌else◌, same, is_empty, member, those}
use Rattle.spec.specs.XmlNames.{prefix_of, local_of}
use Rattle.spec.specs.Pyx.{Attribute, attribute}
use Rattle.spec.specs.Namespaces.{Binding, declared, is_declaration, name_of, look_up, namespace}
use Rattle.spec.specs.NTriples.{coded}
use Rattle.spec.specs.XmlLiteral.{attributes_xml, end_tag_xml}
use Rattle.section7.specs.Events.{Content, end, characters, instruction, comment, element, uri_of}
use Rattle.section7.specs.Events as E

-- ---- order: Canonical XML 1.0, 2.2, document order

-- by code points, which in UTF-8 is by bytes
unfoldable pub precedes : Bytes → Bytes → Bool
precedes s [] = false
precedes [] (b ∷ t) = true
precedes (a ∷ s) (b ∷ t) = ltb a b || (eqb a b && precedes s t)

unfoldable pub put : {A : Type 0} → (A → A → Bool) → A → List A → List A
put before a [] = a ∷ []
put before a (b ∷ l) = when before b a then b ∷ put before a l else a ∷ b ∷ l

unfoldable pub sorted : {A : Type 0} → (A → A → Bool) → List A → List A
sorted before [] = []
sorted before (a ∷ l) = put before a (sorted before l)

-- declarations by prefix, the default first
unfoldable pub before_binding : Binding → Binding → Bool
before_binding a b = precedes a.0 b.0

-- the namespace of an attribute; without a prefix none, which is first
unfoldable pub space_of : List Binding → Attribute → Bytes
space_of bs (attribute n v) = when is_empty (prefix_of n) then [] else uri_of (namespace bs (prefix_of n))

-- attributes by namespace, then by local name
unfoldable pub before_attribute : List Binding → Attribute → Attribute → Bool
before_attribute bs a b =
    precedes (space_of bs a) (space_of bs b)
    || (same (space_of bs a) (space_of bs b) && precedes (local_of (name_of a)) (local_of (name_of b)))

-- ---- namespaces: those that an element or its attributes use, and that the output around it does not have so

-- the prefixes used: of the element, empty for the default, and of attributes that have one
unfoldable pub attribute_prefixes : List Attribute → List Bytes
attribute_prefixes as' =
    those (λ p. not (is_empty p)) (map (λ a. prefix_of (name_of a)) (those (λ a. not (is_declaration a)) as'))

unfoldable pub once_each : List Bytes → List Bytes
once_each [] = []
once_each (p ∷ ps) = when member p ps then once_each ps else p ∷ once_each ps

unfoldable pub used_prefixes : Bytes → List Attribute → List Bytes
used_prefixes n as' = those (λ p. not (same p (ascii "xml"))) (once_each (prefix_of n ∷ attribute_prefixes as'))

-- is it rendered already? An absent default is the empty namespace
unfoldable pub is_rendered : List Binding → Binding → Bool
is_rendered rs b = same (uri_of (look_up b.0 rs)) b.1

unfoldable pub rendered : List Binding → List Binding → Bytes → List Attribute → List Binding
rendered bs rs n as' =
    those (λ b. not (is_rendered rs b))
    (sorted before_binding (map (λ p. (p, uri_of (namespace bs p))) (used_prefixes n as')))

-- as an attribute
unfoldable pub declaration : Binding → Attribute
declaration b = attribute (when is_empty b.0 then ascii "xmlns" else ascii "xmlns:" ++ b.0) b.1

-- ---- text

-- Canonical XML 1.0, 2.3, text nodes
unfoldable pub character : ℕ → Bytes
character c =
    when eqb c (byte "&") then ascii "&amp;" else
    when eqb c (byte "<") then ascii "&lt;" else
    when eqb c (byte ">") then ascii "&gt;" else
    when eqb c (byte "\r") then ascii "&#xD;" else c ∷ []

-- element, namespace and attribute nodes; values as Canonical XML has them
unfoldable pub start_tag : List Binding → List Binding → Bytes → List Attribute → Bytes
start_tag bs rs n as' =
    ascii "<" ++ (n ++ (attributes_xml (map declaration (rendered bs rs n as'))
    ++ (attributes_xml (sorted (before_attribute bs) (those (λ a. not (is_declaration a)) as')) ++ ascii ">")))

-- content with these bindings in scope, and these rendered around it
unfoldable pub canonical : (scope around : List Binding) → Content → Bytes
canonical bs rs end = []
canonical bs rs (characters s following) = coded character s ++ canonical bs rs following
canonical bs rs (instruction s following) = ascii "<?" ++ (s ++ (ascii "?>" ++ canonical bs rs following))
canonical bs rs (comment s following) = ascii "<!--" ++ (s ++ (ascii "-->" ++ canonical bs rs following))
canonical bs rs (element n as' children following) =
    start_tag (declared as' ++ bs) rs n as'
    ++ (canonical (declared as' ++ bs) (rendered (declared as' ++ bs) rs n as' ++ rs) children
    ++ (end_tag_xml n ++ canonical bs rs following))

unfoldable pub all : Unit {0}
unfolding E.all precedes put sorted before_binding space_of before_attribute attribute_prefixes once_each used_prefixes is_rendered rendered declaration character start_tag canonical
all = tt
