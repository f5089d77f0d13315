-- `ntriples::iri` meets its contract: four pieces.
use Rattle.writer.specs.Put.{puts, put_as}
use Rattle.ntriples.specs.Lines.{iri_parts}
use Rattle.ntriples.proofs.iri.Goals as goal

pub returns : goal.returns
returns c = put_as (puts c.byte-to.ensures (puts c.write-to.ensures (puts c.write-to-2.ensures c.byte.ensures))) (iri_parts _ _)
