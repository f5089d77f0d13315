-- `ntriples::reification` meets its contract: four lines; names of the rdf namespace are those of the definitions.
use mathlib.Core.List.{append-nil}
use Rattle.spec.specs.Bytes.{ascii}
use Rattle.spec.specs.Rdf.{rdf}
use Rattle.writer.specs.Put.{puts, put_as}
use Rattle.ntriples.specs.Terms.{subject_of, term_of, as_term_lem, in_rdf}
use Rattle.ntriples.specs.Lines.{reified}
use Rattle.ntriples.proofs.reification.Goals as goal

pub returns : goal.returns
unfolding subject_of term_of in_rdf rdf ascii
returns c = put_as (puts c.rdf_line-to.ensures (puts (rw (c.from.ensures, as_term_lem, append-nil) at c.rdf_line-to-2.ensures) (puts c.rdf_line-to-3.ensures c.rdf_line.ensures))) (reified _ _ _ _)
