-- parser.rs, lines 118 to 138: its constants are spelled so, and line 530's beginning.
use Rattle.std.specs.Prelude.{◌≡◌, refl, [], ◌∷◌, map}
use Rattle.spec.specs.Bytes.{ascii}
use Rattle.spec.specs.Rdf.{rdf}
use Rattle.spec.specs.Rdf as F
use Rattle.rio.specs.Parser.{RDF_ABOUT, RDF_ABOUT_EACH, RDF_ABOUT_EACH_PREFIX, RDF_BAG_ID, RDF_DATATYPE, RDF_DESCRIPTION, RDF_FIRST, RDF_ID, RDF_LI, RDF_NIL, RDF_NODE_ID, RDF_OBJECT, RDF_PARSE_TYPE, RDF_PREDICATE, RDF_RDF, RDF_REST, RDF_RESOURCE, RDF_STATEMENT, RDF_SUBJECT, RDF_TYPE, RDF_XML_LITERAL}

pub constants_spelled :
    rdf "_" ∷ RDF_ABOUT ∷ RDF_ABOUT_EACH ∷ RDF_ABOUT_EACH_PREFIX ∷ RDF_BAG_ID ∷ RDF_DATATYPE ∷ RDF_DESCRIPTION ∷
    RDF_FIRST ∷ RDF_ID ∷ RDF_LI ∷ RDF_NIL ∷ RDF_NODE_ID ∷ RDF_OBJECT ∷ RDF_PARSE_TYPE ∷ RDF_PREDICATE ∷ RDF_RDF ∷
    RDF_REST ∷ RDF_RESOURCE ∷ RDF_STATEMENT ∷ RDF_SUBJECT ∷ RDF_TYPE ∷ RDF_XML_LITERAL ∷ []
    ≡ map ascii (
    "http://www.w3.org/1999/02/22-rdf-syntax-ns#_" ∷
    "http://www.w3.org/1999/02/22-rdf-syntax-ns#about" ∷
    "http://www.w3.org/1999/02/22-rdf-syntax-ns#aboutEach" ∷
    "http://www.w3.org/1999/02/22-rdf-syntax-ns#aboutEachPrefix" ∷
    "http://www.w3.org/1999/02/22-rdf-syntax-ns#bagID" ∷
    "http://www.w3.org/1999/02/22-rdf-syntax-ns#datatype" ∷
    "http://www.w3.org/1999/02/22-rdf-syntax-ns#Description" ∷
    "http://www.w3.org/1999/02/22-rdf-syntax-ns#first" ∷
    "http://www.w3.org/1999/02/22-rdf-syntax-ns#ID" ∷
    "http://www.w3.org/1999/02/22-rdf-syntax-ns#li" ∷
    "http://www.w3.org/1999/02/22-rdf-syntax-ns#nil" ∷
    "http://www.w3.org/1999/02/22-rdf-syntax-ns#nodeID" ∷
    "http://www.w3.org/1999/02/22-rdf-syntax-ns#object" ∷
    "http://www.w3.org/1999/02/22-rdf-syntax-ns#parseType" ∷
    "http://www.w3.org/1999/02/22-rdf-syntax-ns#predicate" ∷
    "http://www.w3.org/1999/02/22-rdf-syntax-ns#RDF" ∷
    "http://www.w3.org/1999/02/22-rdf-syntax-ns#rest" ∷
    "http://www.w3.org/1999/02/22-rdf-syntax-ns#resource" ∷
    "http://www.w3.org/1999/02/22-rdf-syntax-ns#Statement" ∷
    "http://www.w3.org/1999/02/22-rdf-syntax-ns#subject" ∷
    "http://www.w3.org/1999/02/22-rdf-syntax-ns#type" ∷
    "http://www.w3.org/1999/02/22-rdf-syntax-ns#XMLLiteral" ∷
    []
    )
unfolding F.all
constants_spelled = refl
