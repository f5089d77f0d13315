-- `copy::piece` meets its contract.
use Rattle.copy.specs.Copy.{part_of, piece_none, piece_end}
use native.Mathlib.Omega.{arith}
use Rattle.copy.proofs.piece.Goals as goal

pub returns-then-s-at : goal.returns-then-s-at
returns-then-s-at c = piece_none _ _ _ (omega arith)

pub returns-then-s-at-2 : goal.returns-then-s-at-2
returns-then-s-at-2 c = piece_end _ _ _ (omega arith)

pub returns : goal.returns
returns c = part_of _ _ _
