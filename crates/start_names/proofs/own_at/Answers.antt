-- `start_names::own_at` meets its contract.
use Rattle.start_names.specs.Found.{own_words}
use Rattle.start_names.proofs.own_at.Goals as goal

pub returns : goal.returns
returns c = own_words _ _ c.attribute_word-at.ensures c.attribute_word-n.ensures c.attribute_word-v.ensures
