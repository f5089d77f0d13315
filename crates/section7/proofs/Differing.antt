-- An input for each clause of Differences, under its name: section 7 accepts the document with its triples, and the reader
-- gives another answer.
-- In the comments `..` stands for the declarations of rdf and e.
use Rattle.std.specs.Prelude.{◌≡◌, refl, Bool, false, List, [], ◌∷◌, ℕ}
use Rattle.std.proofs.Math.Option.{Option, none, some}
use Rattle.std.proofs.Common.{append-nil}
use Prim.Native.String.{String}
use Rattle.spec.specs.Bytes.{Bytes, ascii, same, ◌>>=◌}
use Rattle.spec.specs.Numbers.{Answer, refuse, good}
use Rattle.spec.specs.declared.Refusal.TheVariants.{NotWellFormed, NoNamespace, BadLanguage, BadIri, RepeatedId, BadLabel, EmptyLiteral}
use Rattle.spec.specs.Pyx.{Attribute, attribute}
use Rattle.spec.specs.Rdf.{rdf}
use Rattle.spec.specs.NTriples.{Subject, named, blank, node, plain, tagged, typed, Triple, triple, label, write}
use Rattle.spec.specs.Modes.{base_mode}
use Rattle.spec.specs.Document.{fresh}
use Rattle.section7.specs.Events.{Content, end, characters, instruction, comment, element, events, Context, inside}
use Rattle.section7.specs.Grammar.{StartElement, Identifier, Used, property_elt_list, Matches, no_node, no_property, node_element, literal_property_elt, parse_type_literal_property_elt, parse_type_other_property_elt, empty_property_elt_blank, outermost, Accepts, RDF, alone}
use Rattle.section7.specs.Reading.{run}
use Rattle.section7.proofs.Deriving.{start}
use Rattle.section7.proofs.Deriving as D

-- the lines that the reader gives
unfoldable pub lines : Option Bytes → Content → Answer (List Triple)
lines b x = run (events x) (fresh base_mode b) >>= λ s. good s.0

-- are they these?
unfoldable pub gives : Answer (List Triple) → List Triple → Bool
gives (refuse n) ts = false
gives (good us) ts = same (write us) (write ts)

-- a document with this base: section 7's triples, and the reader's answer
pub record Differs (b : Option Bytes) (x : Content) (ts : List Triple) (answer : Answer (List Triple)) : Type 0 where
  pub used : Used
  pub accepted : Accepts b x used ts
  pub read : lines b x ≡ answer
  pub others : gives answer ts ≡ false

-- ---- a document with one node element

abbrev pub names : List Attribute
names = attribute (ascii "xmlns:rdf") (rdf "") ∷ attribute (ascii "xmlns:e") (ascii "http://e/") ∷ []

abbrev pub p_attributes : List Attribute
p_attributes = attribute (ascii "rdf:about") (ascii "http://e/p") ∷ names

-- <e:P .. rdf:about="http://e/p">..</e:P>
abbrev pub in_node_content : Content → Content
in_node_content x = element (ascii "e:P") p_attributes x end

abbrev pub p : Subject
p = named (ascii "http://e/p")

abbrev pub q : Bytes
q = ascii "http://e/q"

abbrev pub type_of_p : Triple
type_of_p = triple p (rdf "type") (node (named (ascii "http://e/P")))

abbrev top : Context
top = outermost none

abbrev in_p : Context
in_p = inside p_attributes top

root : StartElement top (ascii "e:P") p_attributes []
unfolding D.all
root = start _ _ _ _ (ascii "http://e/P") none none (some (ascii "http://e/p")) none none [] refl

abbrev behind_root : Used
behind_root = record { labels = 1; ids = [] }

-- its properties are enough
accepted_in_node : {x : Content} {u : Used} {li : ℕ} {ts : List Triple} → Matches (property_elt_list p 0 li) in_p x behind_root u ts → Accepts none (in_node_content x) u (type_of_p ∷ ts)
unfolding D.all root
accepted_in_node {ts = ts} m = rw (← append-nil ts) (alone (node_element root refl (refl, tt) (refl, refl, refl) refl m no_node) tt)

-- a property in it
abbrev pub q_with : List Attribute → Content → Content
q_with as' x = in_node_content (element (ascii "e:q") as' x end)

abbrev pub only : String → String → List Attribute
only n v = attribute (ascii n) (ascii v) ∷ []

q_tag : StartElement in_p (ascii "e:q") [] []
unfolding D.all
q_tag = start _ _ _ _ q none none none none none [] refl

-- ---- of a property element

-- <e:q> </e:q>
pub blank_text : Differs none (q_with [] (characters (ascii " ") end))
    (type_of_p ∷ triple p q (plain (ascii " ")) ∷ [])
    (good (type_of_p ∷ triple p q (plain []) ∷ []))
unfolding D.all lines run gives q_tag
blank_text = record {
  used = behind_root;
  accepted = accepted_in_node (literal_property_elt q_tag refl tt refl refl no_property);
  read = refl;
  others = refl;
}

-- <e:q>a<?i?>b</e:q>
pub divided_text : Differs none (q_with [] (characters (ascii "a") (instruction (ascii "i") (characters (ascii "b") end))))
    (type_of_p ∷ triple p q (plain (ascii "ab")) ∷ [])
    (good (type_of_p ∷ triple p q (plain (ascii "b")) ∷ []))
unfolding D.all lines run gives q_tag
divided_text = record {
  used = behind_root;
  accepted = accepted_in_node (literal_property_elt q_tag refl tt refl refl no_property);
  read = refl;
  others = refl;
}

-- <e:q rdf:type="http://e/T"/>
type_tag : StartElement in_p (ascii "e:q") (only "rdf:type" "http://e/T") []
unfolding D.all
type_tag = start _ _ _ _ q none none none none none (some (ascii "http://e/T") ∷ []) refl

pub type_alone : Differs none (q_with (only "rdf:type" "http://e/T") end)
    (type_of_p ∷ triple (blank (label 2)) (rdf "type") (node (named (ascii "http://e/T"))) ∷ triple p q (node (blank (label 2))) ∷ [])
    (good (type_of_p ∷ triple p q (plain []) ∷ []))
unfolding D.all lines run gives type_tag
type_alone = record {
  used = record { labels = 2; ids = [] };
  accepted = accepted_in_node (empty_property_elt_blank type_tag refl (refl, tt) refl refl refl no_property);
  read = refl;
  others = refl;
}

-- <e:q rdf:parseType="x">t</e:q>
other_tag : StartElement in_p (ascii "e:q") (only "rdf:parseType" "x") []
unfolding D.all
other_tag = start _ _ _ _ q none none none none none [] refl

pub other-parse_type : Differs none (q_with (only "rdf:parseType" "x") (characters (ascii "t") end))
    (type_of_p ∷ triple p q (typed (ascii "t") (rdf "XMLLiteral")) ∷ [])
    (good (type_of_p ∷ []))
unfolding D.all lines run gives other_tag
other-parse_type = record {
  used = behind_root;
  accepted = accepted_in_node (parse_type_other_property_elt other_tag refl (refl, tt) refl refl tt no_property);
  read = refl;
  others = refl;
}

literal-tag : StartElement in_p (ascii "e:q") (only "rdf:parseType" "Literal") []
unfolding D.all
literal-tag = start _ _ _ _ q none none none none none [] refl

-- <e:q rdf:parseType="Literal"/>
pub empty-literal : Differs none (q_with (only "rdf:parseType" "Literal") end)
    (type_of_p ∷ triple p q (typed [] (rdf "XMLLiteral")) ∷ [])
    (refuse EmptyLiteral)
unfolding D.all lines run gives literal-tag
empty-literal = record {
  used = behind_root;
  accepted = accepted_in_node (parse_type_literal_property_elt literal-tag refl (refl, tt) refl tt no_property);
  read = refl;
  others = refl;
}

-- <e:q rdf:parseType="Literal">'</e:q>
pub xml_literal : Differs none (q_with (only "rdf:parseType" "Literal") (characters (ascii "'") end))
    (type_of_p ∷ triple p q (typed (ascii "'") (rdf "XMLLiteral")) ∷ [])
    (good (type_of_p ∷ triple p q (typed (ascii "&apos;") (rdf "XMLLiteral")) ∷ []))
unfolding D.all lines run gives literal-tag
xml_literal = record {
  used = behind_root;
  accepted = accepted_in_node (parse_type_literal_property_elt literal-tag refl (refl, tt) refl tt no_property);
  read = refl;
  others = refl;
}

-- <e:q rdf:parseType="Literal"><e:b z="1" a="2"/></e:q>
abbrev b_content : Content
b_content = element (ascii "e:b") (attribute (ascii "z") (ascii "1") ∷ attribute (ascii "a") (ascii "2") ∷ []) end end

pub xml_literal_namespaces : Differs none (q_with (only "rdf:parseType" "Literal") b_content)
    (type_of_p ∷ triple p q (typed (ascii "<e:b xmlns:e=\"http://e/\" a=\"2\" z=\"1\"></e:b>") (rdf "XMLLiteral")) ∷ [])
    (good (type_of_p ∷ triple p q (typed (ascii "<e:b z=\"1\" a=\"2\"></e:b>") (rdf "XMLLiteral")) ∷ []))
unfolding D.all lines run gives literal-tag
xml_literal_namespaces = record {
  used = behind_root;
  accepted = accepted_in_node (parse_type_literal_property_elt literal-tag refl (refl, tt) refl
      (record { legal = refl; once = refl; known = refl; all_known = (λ h. refl, (λ h. refl, tt)) }, tt, tt) no_property);
  read = refl;
  others = refl;
}

-- <e:q rdf:parseType="Literal">a<!--c--><?i?></e:q>
pub xml_literal_comments : Differs none (q_with (only "rdf:parseType" "Literal") (characters (ascii "a") (comment (ascii "c") (instruction (ascii "i") end))))
    (type_of_p ∷ triple p q (typed (ascii "a<!--c--><?i?>") (rdf "XMLLiteral")) ∷ [])
    (good (type_of_p ∷ triple p q (typed (ascii "a") (rdf "XMLLiteral")) ∷ []))
unfolding D.all lines run gives literal-tag
xml_literal_comments = record {
  used = behind_root;
  accepted = accepted_in_node (parse_type_literal_property_elt literal-tag refl (refl, tt) refl tt no_property);
  read = refl;
  others = refl;
}

-- ---- of a start tag

-- <e:P .. about="http://e/p"/>
abbrev about_attributes : List Attribute
about_attributes = attribute (ascii "about") (ascii "http://e/p") ∷ names

about-tag : StartElement top (ascii "e:P") about_attributes []
unfolding D.all
about-tag = start _ _ _ _ (ascii "http://e/P") none none (some (ascii "http://e/p")) none none [] refl

pub names-without_prefix : Differs none (element (ascii "e:P") about_attributes end end)
    (type_of_p ∷ [])
    (refuse NoNamespace)
unfolding D.all lines run gives about-tag
names-without_prefix = record {
  used = behind_root;
  accepted = alone (node_element about-tag refl (refl, tt) (refl, refl, refl) refl no_property no_node) tt;
  read = refl;
  others = refl;
}

-- <e:P .. xmlns:XMLx="http://x/" XMLx:a="1" rdf:about="http://e/p"/>
abbrev capital_attributes : List Attribute
capital_attributes = attribute (ascii "xmlns:XMLx") (ascii "http://x/") ∷ attribute (ascii "XMLx:a") (ascii "1") ∷ p_attributes

capital_tag : StartElement top (ascii "e:P") capital_attributes []
unfolding D.all
capital_tag = start _ _ _ _ (ascii "http://e/P") none none (some (ascii "http://e/p")) none none [] refl

pub names_in_capitals : Differs none (element (ascii "e:P") capital_attributes end end)
    (type_of_p ∷ [])
    (good (triple p (ascii "http://x/a") (plain (ascii "1")) ∷ type_of_p ∷ []))
unfolding D.all lines run gives capital_tag
names_in_capitals = record {
  used = behind_root;
  accepted = alone (node_element capital_tag refl (refl, tt) (refl, refl, refl) refl no_property no_node) tt;
  read = refl;
  others = refl;
}

-- <e:P .. xmlns:f="http://e/b" e:bc="1" f:c="2" rdf:about="http://e/p"/>
abbrev joined_attributes : List Attribute
joined_attributes = attribute (ascii "xmlns:f") (ascii "http://e/b") ∷ attribute (ascii "e:bc") (ascii "1") ∷ attribute (ascii "f:c") (ascii "2") ∷ p_attributes

joined-tag : StartElement top (ascii "e:P") joined_attributes []
unfolding D.all
joined-tag = start _ _ _ _ (ascii "http://e/P") none none (some (ascii "http://e/p")) none none [] refl

pub joined-names : Differs none (element (ascii "e:P") joined_attributes end end)
    (triple p (ascii "http://e/bc") (plain (ascii "1")) ∷ triple p (ascii "http://e/bc") (plain (ascii "2")) ∷ type_of_p ∷ [])
    (refuse NotWellFormed)
unfolding D.all lines run gives joined-tag
joined-names = record {
  used = behind_root;
  accepted = alone (node_element joined-tag refl (refl, (refl, (refl, tt))) (refl, refl, refl) refl no_property no_node) tt;
  read = refl;
  others = refl;
}

-- <e:q xml:lang="e">t</e:q>
short_tag : StartElement in_p (ascii "e:q") (only "xml:lang" "e") []
unfolding D.all
short_tag = start _ _ _ _ q none none none none none [] refl

pub other-language : Differs none (q_with (only "xml:lang" "e") (characters (ascii "t") end))
    (type_of_p ∷ triple p q (tagged (ascii "t") (ascii "e")) ∷ [])
    (refuse BadLanguage)
unfolding D.all lines run gives short_tag
other-language = record {
  used = behind_root;
  accepted = accepted_in_node (literal_property_elt short_tag refl tt refl refl no_property);
  read = refl;
  others = refl;
}

-- a base at start
abbrev h : Option Bytes
h = some (ascii "http://h/")

-- <e:P .. xml:base="x" rdf:about=""/>
abbrev relative_attributes : List Attribute
relative_attributes = attribute (ascii "xml:base") (ascii "x") ∷ attribute (ascii "rdf:about") [] ∷ names

relative_tag : StartElement (outermost h) (ascii "e:P") relative_attributes []
unfolding D.all
relative_tag = start _ _ _ _ (ascii "http://e/P") (some (ascii "http://h/x")) none (some (ascii "http://h/x")) none none [] refl

pub relative_base : Differs h (element (ascii "e:P") relative_attributes end end)
    (triple (named (ascii "http://h/x")) (rdf "type") (node (named (ascii "http://e/P"))) ∷ [])
    (refuse BadIri)
unfolding D.all lines run gives relative_tag
relative_base = record {
  used = behind_root;
  accepted = alone (node_element relative_tag refl (refl, tt) (refl, refl, refl) refl no_property no_node) tt;
  read = refl;
  others = refl;
}

-- <e:P .. xml:base="http://h/a/../b" rdf:about=""/>
abbrev dots_attributes : List Attribute
dots_attributes = attribute (ascii "xml:base") (ascii "http://h/a/../b") ∷ attribute (ascii "rdf:about") [] ∷ names

dots_tag : StartElement (outermost h) (ascii "e:P") dots_attributes []
unfolding D.all
dots_tag = start _ _ _ _ (ascii "http://e/P") (some (ascii "http://h/b")) none (some (ascii "http://h/b")) none none [] refl

pub dots_in_base : Differs h (element (ascii "e:P") dots_attributes end end)
    (triple (named (ascii "http://h/b")) (rdf "type") (node (named (ascii "http://e/P"))) ∷ [])
    (good (triple (named (ascii "http://h/a/../b")) (rdf "type") (node (named (ascii "http://e/P"))) ∷ []))
unfolding D.all lines run gives dots_tag
dots_in_base = record {
  used = behind_root;
  accepted = alone (node_element dots_tag refl (refl, tt) (refl, refl, refl) refl no_property no_node) tt;
  read = refl;
  others = refl;
}

-- <e:P .. rdf:nodeID="a."/>
abbrev label_attributes : Bytes → List Attribute
label_attributes l = attribute (ascii "rdf:nodeID") l ∷ names

stop_tag : StartElement top (ascii "e:P") (label_attributes (ascii "a.")) []
unfolding D.all
stop_tag = start _ _ _ _ (ascii "http://e/P") none none none none none [] refl

pub refused-label : Differs none (element (ascii "e:P") (label_attributes (ascii "a.")) end end)
    (triple (blank (ascii "a.")) (rdf "type") (node (named (ascii "http://e/P"))) ∷ [])
    (refuse BadLabel)
unfolding D.all lines run gives stop_tag
refused-label = record {
  used = behind_root;
  accepted = alone (node_element stop_tag refl (refl, tt) (refl, refl, refl) refl no_property no_node) tt;
  read = refl;
  others = refl;
}

-- <e:P .. rdf:nodeID="riog00000001"/>
riog_tag : StartElement top (ascii "e:P") (label_attributes (ascii "riog00000001")) []
unfolding D.all
riog_tag = start _ _ _ _ (ascii "http://e/P") none none none none none [] refl

pub refused-label_generated : Differs none (element (ascii "e:P") (label_attributes (ascii "riog00000001")) end end)
    (triple (blank (ascii "riog00000001")) (rdf "type") (node (named (ascii "http://e/P"))) ∷ [])
    (refuse BadLabel)
unfolding D.all lines run gives riog_tag
refused-label_generated = record {
  used = behind_root;
  accepted = alone (node_element riog_tag refl (refl, tt) (refl, refl, refl) refl no_property no_node) tt;
  read = refl;
  others = refl;
}

-- ---- of all rdf:IDs: <rdf:RDF ..><e:P xml:base="http://h/a" rdf:ID="x"/><e:P xml:base="http://h/a#f" rdf:ID="x"/></rdf:RDF>

abbrev id_attributes : Bytes → List Attribute
id_attributes b = attribute (ascii "xml:base") b ∷ attribute (ascii "rdf:ID") (ascii "x") ∷ []

abbrev in_rdf_context : Context
in_rdf_context = inside names top

abbrev x₁ : Identifier
x₁ = (some (ascii "http://h/a"), ascii "x")

rdf-tag : StartElement top (ascii "rdf:RDF") names []
unfolding D.all
rdf-tag = start _ _ _ _ (rdf "RDF") none none none none none [] refl

id_tag₁ : StartElement in_rdf_context (ascii "e:P") (id_attributes (ascii "http://h/a")) []
unfolding D.all
id_tag₁ = start _ _ _ _ (ascii "http://e/P") (some (ascii "http://h/a")) (some (ascii "http://h/a#x")) none none none [] refl

id_tag₂ : StartElement in_rdf_context (ascii "e:P") (id_attributes (ascii "http://h/a#f")) (x₁ ∷ [])
unfolding D.all
id_tag₂ = start _ _ _ _ (ascii "http://e/P") (some (ascii "http://h/a#f")) (some (ascii "http://h/a#x")) none none none [] refl

abbrev x_type : Triple
x_type = triple (named (ascii "http://h/a#x")) (rdf "type") (node (named (ascii "http://e/P")))

pub ids_of_one_iri : Differs none
    (element (ascii "rdf:RDF") names (element (ascii "e:P") (id_attributes (ascii "http://h/a")) end (element (ascii "e:P") (id_attributes (ascii "http://h/a#f")) end end)) end)
    (x_type ∷ x_type ∷ [])
    (refuse RepeatedId)
unfolding D.all lines run gives rdf-tag id_tag₁ id_tag₂
ids_of_one_iri = record {
  used = record { labels = 2; ids = (some (ascii "http://h/a#f"), ascii "x") ∷ x₁ ∷ [] };
  accepted = RDF rdf-tag refl refl
      (node_element id_tag₁ refl (refl, tt) (refl, refl, refl) refl no_property (node_element id_tag₂ refl (refl, tt) (refl, refl, refl) refl no_property no_node)) tt;
  read = refl;
  others = refl;
}
