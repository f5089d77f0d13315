-- `state_words::Row::store` meets its contract. Three words set in a row.
use lib.ListN.{length-set}
use Rattle.state_words.specs.Words.{row-refused, row_stored}
use native.Mathlib.Omega.{arith}
use Rattle.state_words.proofs.Row.store.Goals as goal

pub returns-then-rows-i : goal.returns-then-rows-i
returns-then-rows-i c = row-refused (omega arith)

pub bounds-rows-from-2 : goal.bounds-rows-from-2
bounds-rows-from-2 c = simp length-set (omega arith)

pub bounds-rows-from-3 : goal.bounds-rows-from-3
bounds-rows-from-3 c = simp length-set (omega arith)

pub shape_of-rows : goal.shape_of-rows
shape_of-rows c = simp length-set

pub returns : goal.returns
returns c = row_stored (omega arith)
