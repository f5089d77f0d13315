-- `is_plain_block`. The invariant: `all` is the answer for the first `j` bytes.
use Rattle.utils.proofs.Plain.{gathered_begins, gathered_more, gathered_done}
use native.Mathlib.Omega.{arith}
use Rattle.utils.proofs.is_plain_block.Goals as goal

pub loop-b-init : goal.loop-b-init
loop-b-init c = gathered_begins

pub loop-b-preserved : goal.loop-b-preserved
loop-b-preserved c = gathered_more c.loop-b.invariant (omega arith) c.is_plain-all.ensures

pub returns : goal.returns
returns c = gathered_done c.loop-b.invariant (omega arith)
