-- `ntriples::cell` meets its contract: two lines.
use mathlib.Core.List.{append-nil}
use Rattle.spec.specs.Bytes.{ascii}
use Rattle.spec.specs.Rdf.{rdf}
use Rattle.writer.specs.Put.{puts, put_as}
use Rattle.ntriples.specs.Terms.{subject_of, as_term_lem, in_rdf}
use Rattle.ntriples.specs.Lines.{cell-lines}
use Rattle.ntriples.proofs.cell.Goals as goal

pub returns : goal.returns
unfolding subject_of in_rdf rdf ascii
returns c = put_as (puts (rw (c.from.ensures, as_term_lem, append-nil) at c.rdf_line-to.ensures) (rw (c.from-2.ensures, as_term_lem, append-nil) at c.rdf_line.ensures)) (cell-lines _ _ _)
