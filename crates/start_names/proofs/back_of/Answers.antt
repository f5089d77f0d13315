-- `start_names::back_of` meets its contract.
use Rattle.start_names.specs.Tag.{back_none, back_rest}
use native.Mathlib.Omega.{arith}
use Rattle.start_names.proofs.back_of.Goals as goal

pub returns-then-name-c : goal.returns-then-name-c
returns-then-name-c c = back_none _ _ (omega arith)

pub returns : goal.returns
returns c = back_rest _ _
