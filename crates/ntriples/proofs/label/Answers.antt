-- `ntriples::label` meets its contract: three pieces.
use Rattle.spec.specs.Bytes.{ascii}
use Rattle.spec.specs.NTriples.{write_subject}
use Rattle.writer.specs.Put.{puts}
use Rattle.ntriples.proofs.label.Goals as goal

pub returns : goal.returns
unfolding write_subject ascii
returns c = puts c.bytes-to.ensures (puts c.bytes-to-2.ensures c.bytes.ensures)
