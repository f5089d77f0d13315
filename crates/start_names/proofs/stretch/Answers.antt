-- `start_names::stretch` meets its contract: all of it is there, or it is a piece.
use Rattle.copy.specs.Copy.{part_of}
use Rattle.start_names.proofs.stretch.Goals as goal

pub returns-then-to-s : goal.returns-then-to-s
returns-then-to-s c = part_of _ _ _
