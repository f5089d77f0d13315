-- `ntriples::line` meets its contract: six pieces.
use Rattle.spec.specs.Bytes.{ascii}
use Rattle.spec.specs.NTriples.{line}
use Rattle.writer.specs.Put.{puts}
use Rattle.ntriples.proofs.line.Goals as goal

pub returns : goal.returns
unfolding line ascii
returns c = puts c.subject-to.ensures (puts c.byte-to.ensures (puts c.iri-to.ensures (puts c.byte-to-2.ensures (puts c.object-to.ensures c.bytes.ensures))))
