-- `goes_on`: a byte goes on where it has one leading one bit.
use Rattle.spec.specs.Utf8.{goes_on}
use Rattle.utils.proofs.goes_on.Goals as goal

pub returns : goal.returns
unfolding goes_on
returns c = rw c.sequence_length.ensures
