-- `ntriples::tagged` meets its contract: three pieces.
use Rattle.spec.specs.Bytes.{ascii}
use Rattle.spec.specs.NTriples.{write_term}
use Rattle.writer.specs.Put.{puts}
use Rattle.ntriples.proofs.tagged.Goals as goal

pub returns : goal.returns
unfolding write_term ascii
returns c = puts c.text-to.ensures (puts c.byte-to.ensures c.bytes.ensures)
