-- Documents that are not in the grammar of section 7 and that the reader accepts, by name as in docs/DIFFERENCES.md: what
-- it gives.
-- In the comments `..` stands for the declarations of rdf and e.
use Rattle.std.specs.Prelude.{◌≡◌, refl, false, List, [], ◌∷◌}
use Rattle.std.proofs.Common.{sym, ◌∙◌}
use Rattle.std.proofs.lemmas.Bool.{false≢true}
use Rattle.std.proofs.Math.Option.{none}
use Rattle.spec.specs.Bytes.{Bytes, ascii}
use Rattle.spec.specs.Numbers.{good}
use Rattle.spec.specs.Rfc3987.{is_iri}
use Rattle.spec.specs.Pyx.{Attribute, attribute}
use Rattle.spec.specs.Rdf.{rdf}
use Rattle.spec.specs.NTriples.{named, blank, node, plain, tagged, Triple, triple, label}
use Rattle.section7.specs.Events.{Content, end, characters, element}
use Rattle.section7.specs.Grammar.{Used, outermost, Accepts}
use Rattle.section7.specs.Differences.{document}
use Rattle.section7.specs.Reading.{run}
use Rattle.section7.proofs.Shapes.{is_shaped, accepted_shaped}
use Rattle.section7.proofs.Shapes as S
use Rattle.section7.proofs.Differing.{lines, names, p_attributes, q_with, only, p, q, type_of_p}

pub record Beyond (x : Content) (ts : List Triple) : Type 0 where
  pub not_accepted : (u : Used) (us : List Triple) → Accepts none x u us → ⊥
  pub read : lines none x ≡ good ts

beyond : {x : Content} {ts : List Triple} → is_shaped document (outermost none) x ≡ false → lines none x ≡ good ts → Beyond x ts
beyond h k = record { not_accepted = λ u us m. false≢true (sym h ∙ accepted_shaped none m); read = k }

-- ---- children

-- a node element in a property
abbrev child : Bytes → Content → Content
child n f = element n [] end f

abbrev type_of : Bytes → Bytes → Triple
type_of l i = triple (blank l) (rdf "type") (node (named i))

abbrev is : Bytes → Triple
is l = triple p q (node (blank l))

-- <e:q><e:A/><e:B/></e:q>
pub two-nodes : Beyond (q_with [] (child (ascii "e:A") (child (ascii "e:B") end)))
    (type_of_p ∷ type_of (label 2) (ascii "http://e/A") ∷ type_of (label 3) (ascii "http://e/B") ∷ is (label 3) ∷ [])
unfolding S.all lines run
two-nodes = beyond refl refl

-- <e:q>a<e:A/></e:q>
pub text_and_node : Beyond (q_with [] (characters (ascii "a") (child (ascii "e:A") end)))
    (type_of_p ∷ type_of (label 2) (ascii "http://e/A") ∷ is (label 2) ∷ [])
unfolding S.all lines run
text_and_node = beyond refl refl

-- <e:q><e:A/>a</e:q>
pub node_and_text : Beyond (q_with [] (child (ascii "e:A") (characters (ascii "a") end)))
    (type_of_p ∷ type_of (label 2) (ascii "http://e/A") ∷ triple p q (plain (ascii "a")) ∷ [])
unfolding S.all lines run
node_and_text = beyond refl refl

-- ---- attributes of a node element

abbrev node_with : Attribute → Content
node_with a = element (ascii "e:P") (a ∷ p_attributes) end end

-- <e:P .. rdf:bagID="b"/>
pub bag_id : Beyond (node_with (attribute (ascii "rdf:bagID") (ascii "b"))) (type_of_p ∷ [])
unfolding S.all lines run
bag_id = beyond refl refl

-- <e:P .. rdf:Description="v"/>
pub Description-attribute : Beyond (node_with (attribute (ascii "rdf:Description") (ascii "v")))
    (triple p (rdf "Description") (plain (ascii "v")) ∷ type_of_p ∷ [])
unfolding S.all lines run
Description-attribute = beyond refl refl

-- <e:P .. rdf:resource="http://e/r"/>
pub resource_on_node : Beyond (node_with (attribute (ascii "rdf:resource") (ascii "http://e/r"))) (type_of_p ∷ [])
unfolding S.all lines run
resource_on_node = beyond refl refl

-- <e:P .. rdf:datatype="http://e/d"/>
pub datatype_on_node : Beyond (node_with (attribute (ascii "rdf:datatype") (ascii "http://e/d"))) (type_of_p ∷ [])
unfolding S.all lines run
datatype_on_node = beyond refl refl

-- <e:P .. rdf:parseType="x"/>
pub parse_type_on_node : Beyond (node_with (attribute (ascii "rdf:parseType") (ascii "x"))) (type_of_p ∷ [])
unfolding S.all lines run
parse_type_on_node = beyond refl refl

-- <rdf:RDF .. e:a="1"/>
pub attributes_of_RDF : Beyond (element (ascii "rdf:RDF") (attribute (ascii "e:a") (ascii "1") ∷ names) end end) []
unfolding S.all lines run
attributes_of_RDF = beyond refl refl

-- ---- attributes of a property element

-- <e:q rdf:about="http://e/r"/>
pub about_on_property : Beyond (q_with (only "rdf:about" "http://e/r") end) (type_of_p ∷ triple p q (plain []) ∷ [])
unfolding S.all lines run
about_on_property = beyond refl refl

-- <e:q rdf:parseType="Resource" e:a="1"/>
pub attributes_and_parse_type : Beyond (q_with (attribute (ascii "e:a") (ascii "1") ∷ only "rdf:parseType" "Resource") end)
    (type_of_p ∷ is (label 2) ∷ [])
unfolding S.all lines run
attributes_and_parse_type = beyond refl refl

-- <e:q rdf:parseType="Resource" rdf:nodeID="k" rdf:resource="http://e/r"/>
pub objects_and_parse_type : Beyond (q_with (attribute (ascii "rdf:parseType") (ascii "Resource") ∷ attribute (ascii "rdf:nodeID") (ascii "k") ∷ only "rdf:resource" "http://e/r") end)
    (type_of_p ∷ is (label 2) ∷ [])
unfolding S.all lines run
objects_and_parse_type = beyond refl refl

-- <e:q rdf:resource="http://e/r">t</e:q>
pub resource_and_text : Beyond (q_with (only "rdf:resource" "http://e/r") (characters (ascii "t") end))
    (type_of_p ∷ triple p q (plain (ascii "t")) ∷ [])
unfolding S.all lines run
resource_and_text = beyond refl refl

-- <e:q rdf:resource="http://e/r"> </e:q>
pub resource_and_white_space : Beyond (q_with (only "rdf:resource" "http://e/r") (characters (ascii " ") end))
    (type_of_p ∷ triple p q (node (named (ascii "http://e/r"))) ∷ [])
unfolding S.all lines run
resource_and_white_space = beyond refl refl

-- <e:q rdf:resource="http://e/r"><e:A/></e:q>
pub resource_and_node : Beyond (q_with (only "rdf:resource" "http://e/r") (child (ascii "e:A") end))
    (type_of_p ∷ type_of (label 2) (ascii "http://e/A") ∷ is (label 2) ∷ [])
unfolding S.all lines run
resource_and_node = beyond refl refl

-- <e:q rdf:nodeID="k">t</e:q>
pub node_id_and_text : Beyond (q_with (only "rdf:nodeID" "k") (characters (ascii "t") end))
    (type_of_p ∷ triple p q (plain (ascii "t")) ∷ [])
unfolding S.all lines run
node_id_and_text = beyond refl refl

-- <e:q rdf:nodeID="k"><e:A/></e:q>
pub node_id_and_node : Beyond (q_with (only "rdf:nodeID" "k") (child (ascii "e:A") end))
    (type_of_p ∷ type_of (label 2) (ascii "http://e/A") ∷ is (label 2) ∷ [])
unfolding S.all lines run
node_id_and_node = beyond refl refl

-- <e:q e:a="1">t</e:q>
pub attributes_and_text : Beyond (q_with (only "e:a" "1") (characters (ascii "t") end))
    (type_of_p ∷ triple (blank (label 2)) (ascii "http://e/a") (plain (ascii "1")) ∷ triple p q (plain (ascii "t")) ∷ [])
unfolding S.all lines run
attributes_and_text = beyond refl refl

-- <e:q e:a="1"><e:A/></e:q>
pub attributes_and_node : Beyond (q_with (only "e:a" "1") (child (ascii "e:A") end))
    (type_of_p ∷ triple (blank (label 2)) (ascii "http://e/a") (plain (ascii "1")) ∷ type_of (label 3) (ascii "http://e/A") ∷ is (label 3) ∷ [])
unfolding S.all lines run
attributes_and_node = beyond refl refl

-- <e:q rdf:type="http://e/T">t</e:q>
pub type_and_text : Beyond (q_with (only "rdf:type" "http://e/T") (characters (ascii "t") end))
    (type_of_p ∷ triple p q (plain (ascii "t")) ∷ [])
unfolding S.all lines run
type_and_text = beyond refl refl

-- <e:q rdf:datatype="http://e/d"><e:A/></e:q>
pub datatype_and_node : Beyond (q_with (only "rdf:datatype" "http://e/d") (child (ascii "e:A") end))
    (type_of_p ∷ type_of (label 2) (ascii "http://e/A") ∷ is (label 2) ∷ [])
unfolding S.all lines run
datatype_and_node = beyond refl refl

-- <e:q rdf:datatype="http://e/d" rdf:resource="http://e/r"/>
pub datatype_and_resource : Beyond (q_with (attribute (ascii "rdf:datatype") (ascii "http://e/d") ∷ only "rdf:resource" "http://e/r") end)
    (type_of_p ∷ triple p q (node (named (ascii "http://e/r"))) ∷ [])
unfolding S.all lines run
datatype_and_resource = beyond refl refl

-- ---- no difference in the graph, or none that the grammar has a word for

-- <e:q xml:lang="en-GB">t</e:q>: RDF 1.1 Concepts, 3.3, has tags in lower case as values
pub tag_in_lower_case : lines none (q_with (only "xml:lang" "en-GB") (characters (ascii "t") end)) ≡ good (type_of_p ∷ triple p q (tagged (ascii "t") (ascii "en-gb")) ∷ [])
unfolding S.all lines run
tag_in_lower_case = refl

-- <a:P xmlns:a="a"/>: a URI that is no IRI
abbrev relative_input : Content
relative_input = element (ascii "a:P") (attribute (ascii "xmlns:a") (ascii "a") ∷ []) end end

pub relative_namespace : (lines none relative_input ≡ good (triple (blank (label 1)) (rdf "type") (node (named (ascii "aP"))) ∷ [])) × (is_iri (ascii "aP") ≡ false)
unfolding S.all lines run
relative_namespace = (refl, refl)
