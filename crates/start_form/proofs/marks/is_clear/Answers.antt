-- `start_form::marks::is_clear` meets its contract: there are too few, or a block is searched.
use Rattle.copy.specs.Copy.{part_of, length_part}
use Rattle.start_form.specs.Marks.{clear_short, clear_block}
use native.Mathlib.Omega.{arith}
use Rattle.start_form.proofs.marks.is_clear.Goals as goal

pub returns-then-to-i-lt-BLOCK : goal.returns-then-to-i-lt-BLOCK
returns-then-to-i-lt-BLOCK c = clear_short

pub returns : goal.returns
returns c = clear_block c.requires.1 (omega (arith, c.requires)) (length_part _ _ 8 (omega (arith, c.requires))) (rw part_of at c.has_mark.ensures)
