-- `state_words::Row::load` meets its contract. Three words of the row.
use Rattle.state_words.specs.Words.{row_none, row_loaded}
use native.Mathlib.Omega.{arith}
use Rattle.state_words.proofs.Row.load.Goals as goal

pub returns-then-rows-i : goal.returns-then-rows-i
returns-then-rows-i c = row_none _ _ (omega arith)

pub returns : goal.returns
returns c = row_loaded _ _ (omega arith)
