-- `start_names::space_of` meets its contract, by the class.
use Rattle.start_names.proofs.space_of.Goals as goal

pub returns-in-Own : goal.returns-in-Own
returns-in-Own c = rw c.in-Own.is c.piece.ensures

pub returns-in-Held : goal.returns-in-Held
returns-in-Held c = rw c.in-Held.is c.piece-in-Held.ensures
