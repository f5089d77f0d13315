-- `packets::mark` meets its contract. Where an element is open its frame is stored.
use Rattle.state_stack.specs.Packets.{mark-empty, mark_done}
use Rattle.state_stack.proofs.packets.mark.Goals as goal

pub returns-then-r-eq0 : goal.returns-then-r-eq0
returns-then-r-eq0 c = mark-empty c.if-r-eq0.true

pub returns : goal.returns
returns c = mark_done c.if-r-eq0.false c.store.ensures
