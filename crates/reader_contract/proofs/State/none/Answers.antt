-- `State::none` meets its contract: a fresh state, closed.
use Rattle.reader_contract.specs.Meaning.{nothing}
use Rattle.reader_contract.proofs.State.none.Goals as goal

pub returns : goal.returns
returns c = nothing (rw c.base.ensures at c.fresh-fresh.ensures) c.closed.ensures
