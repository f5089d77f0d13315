-- `streams::try_read` meets its contract: the room is the same behind the call.
use borrow.Author.Rules.{rules}
use Rattle.streams.specs.Deciding.{at_most_lem}
use Rattle.streams.proofs.try_read.Goals as goal

pub returns-in-Ok : goal.returns-in-Ok
returns-in-Ok g c = at_most_lem _ _ c.of.ensures (search rules)

pub returns-in-Err : goal.returns-in-Err
returns-in-Err g c = at_most_lem _ _ c.of-in-Err.ensures (search rules)
