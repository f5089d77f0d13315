-- `start_names::name_of` meets its contract.
use mathlib.Core.Path.{◌∙◌}
use Rattle.start_names.specs.Tag.{name_read}
use Rattle.start_names.proofs.name_of.Goals as goal

pub returns : goal.returns
returns c = c.piece.ensures ∙ name_read _ _ c.attribute_word-at.ensures c.attribute_word-n.ensures
