-- `ntriples::typed` meets its contract: three pieces.
use mathlib.Core.List.{append-nil}
use Rattle.spec.specs.Bytes.{ascii}
use Rattle.spec.specs.NTriples.{write_term}
use Rattle.writer.specs.Put.{puts}
use Rattle.ntriples.proofs.typed.Goals as goal

pub returns : goal.returns
unfolding write_term ascii
returns c = puts c.text-to.ensures (puts c.bytes-to.ensures (rw append-nil at c.iri.ensures))
