-- `start_names::value_of` meets its contract.
use mathlib.Core.Path.{◌∙◌}
use Rattle.start_names.specs.Tag.{value_read}
use Rattle.start_names.proofs.value_of.Goals as goal

pub returns : goal.returns
returns c = c.piece.ensures ∙ value_read _ _ c.attribute_word-at.ensures c.attribute_word-n.ensures c.attribute_word-v.ensures
