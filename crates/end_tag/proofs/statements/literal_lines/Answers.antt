-- `end_tag::statements::literal_lines` meets its contract. `RDF_XML_LITERAL` is the name of the definitions.
use Rattle.spec.specs.Bytes.{ascii}
use Rattle.spec.specs.Rdf.{rdf}
use Rattle.ntriples.specs.Terms.{term_of}
use Rattle.end_tag.proofs.statements.literal_lines.Goals as goal

pub returns : goal.returns
unfolding term_of rdf ascii
returns c = rw c.part_of-text.ensures at c.statement.ensures
