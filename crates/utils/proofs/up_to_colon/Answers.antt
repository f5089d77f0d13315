-- `up_to_colon`: where `find` finds the first.
use mathlib.Core.Path.{◌∙◌}
use Rattle.utils.proofs.Names.{found_before}
use Rattle.utils.proofs.up_to_colon.Goals as goal

pub returns : goal.returns
returns c = c.find.ensures ∙ found_before _
