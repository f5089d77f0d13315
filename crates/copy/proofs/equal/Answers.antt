-- `copy::equal` meets its contract.
use Rattle.std.proofs.Common.{◌∙◌}
use Rattle.copy.specs.Texts.{same_is}
use Rattle.copy.proofs.equal.Goals as goal

pub returns : goal.returns
returns c = c.eq.ensures ∙ same_is _ _
