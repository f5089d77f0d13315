-- `start_names::row_word` meets its contract.
use Rattle.start_names.specs.Tag.{word_none}
use native.Mathlib.Omega.{arith}
use Rattle.start_names.proofs.row_word.Goals as goal

pub returns-then-rows-i : goal.returns-then-rows-i
returns-then-rows-i c = word_none (omega arith)

pub returns-then-rows-from : goal.returns-then-rows-from
returns-then-rows-from c = word_none (omega arith)
