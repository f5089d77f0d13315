-- `start_element::put_text` meets its contract: the part's bytes are written.
use Rattle.start_element.proofs.put_text.Goals as goal

pub append-requires : goal.append-requires
append-requires c = rw c.text.ensures c.requires

pub returns : goal.returns
returns c = rw (← c.text.ensures) c.append.ensures
