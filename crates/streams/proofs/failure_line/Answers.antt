-- `streams::failure_line` meets its contract: what failed, two texts with their numbers, and a last text.
use mathlib.Core.Path.{refl}
use Rattle.spec.specs.Bytes.{ascii}
use Rattle.streams.specs.Telling.{line_goes_on, line_made}
use Rattle.streams.proofs.failure_line.Goals as goal

pub put_count-m-requires : goal.put_count-m-requires
unfolding ascii
put_count-m-requires c = line_goes_on _ c.requires.0 c.requires.1 c.put.ensures c.put_count-n.ensures refl

pub returns : goal.returns
unfolding ascii
returns c = line_made _ _ c.requires.0 c.requires.1 c.put.ensures c.put_count-n.ensures c.put_count-m.ensures c.put-2.ensures
