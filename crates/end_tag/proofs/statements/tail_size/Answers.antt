-- `end_tag::statements::tail_size` meets its contract. The size of the part.
use mathlib.Core.Path.{ap}
use lib.ListN.{length}
use Rattle.end_tag.proofs.statements.tail_size.Goals as goal

pub returns : goal.returns
returns c = ap length c.part_of-text.ensures
