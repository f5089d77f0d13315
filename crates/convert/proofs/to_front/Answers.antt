-- `convert::to_front` meets its contract.
use Rattle.convert.specs.Reading.{moves}
use Rattle.convert.proofs.to_front.Goals as goal

pub returns : goal.returns
returns c = moves c.requires.0 c.requires.1 c.copy_within.ensures.len c.copy_within.ensures.after
