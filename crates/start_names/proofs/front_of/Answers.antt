-- `start_names::front_of` meets its contract.
use mathlib.Core.Path.{◌∙◌}
use Rattle.start_names.specs.Tag.{front_none, front_piece}
use native.Mathlib.Omega.{arith}
use Rattle.start_names.proofs.front_of.Goals as goal

pub returns-then-c-eq0 : goal.returns-then-c-eq0
returns-then-c-eq0 c = front_none _ _ (omega arith)

pub returns : goal.returns
returns c = c.piece.ensures ∙ front_piece _ _
