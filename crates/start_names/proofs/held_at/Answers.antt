-- `start_names::held_at` meets its contract.
use Rattle.start_names.specs.Found.{held_read}
use Rattle.start_names.proofs.held_at.Goals as goal

pub returns : goal.returns
returns c = held_read _ _ c.row_word-at.ensures.is c.row_word-size.ensures.is c.row_word-more.ensures.is
