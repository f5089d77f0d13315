-- `start_form::marks::has_mark` meets its contract.
use Rattle.copy.specs.Scan.{gathered_begins, gathered_more, gathered_done}
use native.Mathlib.Omega.{arith}
use Rattle.start_form.proofs.marks.has_mark.Goals as goal

pub loop-other-init : goal.loop-other-init
loop-other-init c = gathered_begins

pub loop-other-preserved : goal.loop-other-preserved
loop-other-preserved c = gathered_more c.loop-other.invariant (omega arith)

pub returns : goal.returns
returns c = gathered_done c.loop-other.invariant (omega arith)
