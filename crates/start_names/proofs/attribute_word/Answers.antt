-- `start_names::attribute_word` meets its contract.
use Rattle.start_names.specs.Tag.{word_none}
use native.Mathlib.Omega.{arith}
use Rattle.start_names.proofs.attribute_word.Goals as goal

pub returns-then-spans-j : goal.returns-then-spans-j
returns-then-spans-j c = word_none (omega arith)

pub returns-then-spans-from : goal.returns-then-spans-from
returns-then-spans-from c = word_none (omega arith)
