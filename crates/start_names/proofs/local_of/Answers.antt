-- `start_names::local_of` meets its contract.
use mathlib.Core.Path.{◌∙◌}
use Rattle.start_names.specs.Tag.{back_read}
use Rattle.start_names.proofs.local_of.Goals as goal

pub returns : goal.returns
returns c = c.back_of.ensures ∙ back_read _ _ _ c.name_of.ensures c.attribute_word.ensures
