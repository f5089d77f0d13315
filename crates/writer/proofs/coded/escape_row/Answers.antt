-- `coded::escape_row` meets its contract.
use Rattle.writer.specs.Coded.{plain-begins, going_begins, going_byte, going_whole}
use native.Mathlib.Omega.{arith}
use Rattle.writer.proofs.coded.escape_row.Goals as goal

pub loop-b-init : goal.loop-b-init
loop-b-init g c = going_begins plain-begins

pub loop-b-preserved : goal.loop-b-preserved
loop-b-preserved g c = going_byte c.loop-b.invariant (omega arith) c.escape-to.ensures

pub shape_of-out : goal.shape_of-out
shape_of-out g c = (going_whole (omega arith) c.loop-b.invariant (omega arith)).same

pub returns : goal.returns
returns g c = going_whole (omega arith) c.loop-b.invariant (omega arith)
