-- `start_names::prefix_of` meets its contract.
use mathlib.Core.Path.{◌∙◌}
use Rattle.start_names.specs.Tag.{front_read}
use Rattle.start_names.proofs.prefix_of.Goals as goal

pub returns : goal.returns
returns c = c.front_of.ensures ∙ front_read _ _ _ c.name_of.ensures c.attribute_word.ensures
