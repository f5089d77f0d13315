-- `telling::refusal_line` meets its contract: a name, two texts with their numbers, and a line end.
use mathlib.Core.Path.{refl}
use Rattle.spec.specs.Bytes.{ascii}
use Rattle.iceshaft.specs.Telling.{refusal_goes_on, refusal_made}
use Rattle.iceshaft.proofs.telling.refusal_line.Goals as goal

pub put_number-m-requires : goal.put_number-m-requires
unfolding ascii
put_number-m-requires c = refusal_goes_on _ c.requires.0 c.requires.1 c.put.ensures c.put_number-n.ensures refl

pub returns : goal.returns
unfolding ascii
returns c = refusal_made _ _ c.requires.0 c.requires.1 c.put.ensures c.put_number-n.ensures c.put_number-m.ensures c.put-2.ensures
