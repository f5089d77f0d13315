-- The element that a start tag outside Literal content opens: said by the decoded event, by what was made for it, and by where its parts are.
use Rattle.std.specs.Prelude.{◌≡◌, Bool, true, false, List, [], ℕ, eqb, take}
use Rattle.std.proofs.Math.Option.{Option, none, some}
use Rattle.spec.specs.Bytes.{Bytes}
use Rattle.spec.specs.NTriples.{Subject, named, blank}
use Rattle.spec.specs.Namespaces.{declared}
use Rattle.spec.specs.Document.{default, collection, literal, other, Property}
use Rattle.spec.specs.Document.{Kind as What, rdf_rdf, wrapper, node_element, property_element, Part, ordinary, top_level, alternatives, Frame as Element}
use Rattle.copy.specs.Copy.{part}
use Rattle.state_words.specs.declared.Kind.{Kind}
use Rattle.state_words.specs.declared.Kind.TheVariants.{Rdf, NodeElt, PropertyElt, ParseTypeCollectionPropertyElt, ParseTypeLiteralPropertyElt, ParseTypeOtherPropertyElt, Wrapper}
use Rattle.state_words.specs.Words.{pick}
use Rattle.state.specs.Language.{own_of_code}
use Rattle.state.specs.Meaning.{object_of}
use Rattle.start_names.specs.Tag.{attributes_of}
use Rattle.start_element.specs.declared.Source.{Source}
use Rattle.start_element.specs.declared.Source.TheVariants.{Missing, Own, Made}
use Rattle.start_element.specs.declared.Parts.{Parts}
use Rattle.start_element.specs.declared.Pending.{Pending}
use Rattle.start_element.specs.declared.Pending.TheVariants.{Absent, Named, Blank, Awaited, Word}

-- the word of a frame for an object, or for what a packet remembers
abbrev pub word_of : Pending → ℕ
word_of Absent = 0
word_of Named = 1
word_of Blank = 2
word_of Awaited = 1
word_of (Word n) = n

abbrev pub is_absent : Pending → Bool
is_absent p = eqb (word_of p) 0

abbrev pub is_blank : Pending → Bool
is_blank p = eqb (word_of p) 2

-- the bytes of a part, of a decoded event e and an area a; what is missing is empty
unfoldable pub text_of : Source → List ℕ → List ℕ → Bytes
text_of Missing e a = []
text_of (Own i n) e a = part e i n
text_of (Made i n) e a = part a i n

-- the same, where a part that is missing is not there
unfoldable pub maybe : Source → List ℕ → List ℕ → Option Bytes
maybe Missing e a = none
maybe (Own i n) e a = some (part e i n)
maybe (Made i n) e a = some (part a i n)

-- the subject of a node
unfoldable pub node_is : Bool → Bytes → Subject
node_is b i = pick b (blank i) (named i)

-- a property's statement, less its object; s is its subject
unfoldable pub property_is : Parts → List ℕ → List ℕ → Subject → Property
property_is p e a s = record { subject = s; iri = text_of p.main e a; id = maybe p.id e a }

-- by the kind: no rdf:li, no child and no XML text so far
unfoldable pub kind_is : Kind → Parts → List ℕ → List ℕ → Subject → What
kind_is Rdf p e a s = rdf_rdf
kind_is NodeElt p e a s = node_element (node_is p.blank (text_of p.main e a)) 0
kind_is PropertyElt p e a s = property_element (property_is p e a s) (default (maybe p.datatype e a) (object_of (word_of p.what) (text_of p.object e a)))
kind_is ParseTypeCollectionPropertyElt p e a s = property_element (property_is p e a s) (collection [])
kind_is ParseTypeLiteralPropertyElt p e a s = property_element (property_is p e a s) (literal [])
kind_is ParseTypeOtherPropertyElt p e a s = property_element (property_is p e a s) other
kind_is Wrapper p e a s = wrapper false

-- what it is in a packet: 0 nothing, 1 without a child so far
unfoldable pub part_is : Kind → Parts → List ℕ → List ℕ → Part
part_is Rdf p e a = pick (eqb (word_of p.what) 0) ordinary (top_level (pick (eqb (word_of p.what) 1) none (some (text_of p.object e a))))
part_is NodeElt p e a = pick (eqb (word_of p.what) 0) ordinary (alternatives (pick (eqb (word_of p.what) 1) none (some (eqb (word_of p.what) 3))))
part_is PropertyElt p e a = ordinary
part_is ParseTypeCollectionPropertyElt p e a = ordinary
part_is ParseTypeLiteralPropertyElt p e a = ordinary
part_is ParseTypeOtherPropertyElt p e a = ordinary
part_is Wrapper p e a = ordinary

-- the element, whose name is the first m bytes of e and whose k attributes are where the words w say; s is the subject of the node around it
unfoldable pub new_element : List ℕ → List ℕ → ℕ → ℕ → List ℕ → Parts → Subject → Element
new_element e w m k a p s =
    record {
      name = take m e;
      bindings = declared (attributes_of e w k);
      own_base = maybe p.base e a;
      own_tag = own_of_code p.tag a;
      kind = kind_is p.kind p e a s;
      part = part_is p.kind p e a;
    }

-- what a kind does not have is missing
abbrev pub Lacks : Kind → Parts → Type 0
Lacks Rdf p = (p.main ≡ Missing) × (p.id ≡ Missing) × (p.datatype ≡ Missing) × (p.object ≡ Missing)
Lacks NodeElt p = (p.id ≡ Missing) × (p.datatype ≡ Missing) × (p.object ≡ Missing)
Lacks PropertyElt p = word_of p.what ≡ 0 → p.object ≡ Missing
Lacks ParseTypeCollectionPropertyElt p = (p.datatype ≡ Missing) × (p.object ≡ Missing)
Lacks ParseTypeLiteralPropertyElt p = (p.datatype ≡ Missing) × (p.object ≡ Missing)
Lacks ParseTypeOtherPropertyElt p = (p.datatype ≡ Missing) × (p.object ≡ Missing)
Lacks Wrapper p = (p.main ≡ Missing) × (p.id ≡ Missing) × (p.datatype ≡ Missing) × (p.object ≡ Missing)

pub record Fitting (p : Parts) : Type 0 where
  pub lacks : Lacks p.kind p
