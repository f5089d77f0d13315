-- `telling::unknown_line` meets its contract: a word between two texts.
use Rattle.spec.specs.Bytes.{ascii}
use Rattle.iceshaft.specs.Telling.{unknown_made}
use Rattle.iceshaft.proofs.telling.unknown_line.Goals as goal

pub returns : goal.returns
unfolding ascii
returns c = unknown_made c.requires.0 c.requires.1 c.put.ensures c.put-2.ensures c.put-3.ensures
