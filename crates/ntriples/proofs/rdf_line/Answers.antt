-- `ntriples::rdf_line` meets its contract: `RDF` is the namespace of the definitions.
use Rattle.spec.specs.Bytes.{ascii}
use Rattle.ntriples.specs.Terms.{in_rdf}
use Rattle.ntriples.proofs.rdf_line.Goals as goal

pub returns : goal.returns
unfolding in_rdf ascii
returns c = c.line.ensures
