-- `start_form::marks::mark` meets its contract.
use mathlib.Core.Path.{◌∙◌}
use Rattle.start_form.specs.Marks.{marking_begins, marking_more, marking_done}
use native.Mathlib.Omega.{arith}
use Rattle.start_form.proofs.marks.mark.Goals as goal

pub loop-i-init : goal.loop-i-init
loop-i-init c = marking_begins

pub loop-i-preserved : goal.loop-i-preserved
loop-i-preserved c = marking_more c.loop-i.invariant (omega arith) (c.byte.ensures.0 ∙ c.byte_from_end.ensures)

pub returns : goal.returns
returns c = marking_done c.loop-i.invariant (omega arith)
