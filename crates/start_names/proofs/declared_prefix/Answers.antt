-- `start_names::declared_prefix` meets its contract.
use mathlib.Core.Path.{◌∙◌}
use Rattle.start_names.specs.Declarations.{declares_after}
use Rattle.start_names.proofs.declared_prefix.Goals as goal

pub returns : goal.returns
returns c = c.back_of.ensures ∙ declares_after _
