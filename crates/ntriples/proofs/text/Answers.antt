-- `ntriples::text` meets its contract: four pieces.
use Rattle.writer.specs.Put.{puts, put_as}
use Rattle.ntriples.specs.Lines.{text_parts}
use Rattle.ntriples.proofs.text.Goals as goal

pub returns : goal.returns
returns c = put_as (puts c.byte-to.ensures (puts c.write-to.ensures (puts c.write-to-2.ensures c.byte.ensures))) (text_parts _ _)
