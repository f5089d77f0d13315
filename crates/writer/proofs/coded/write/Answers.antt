-- `coded::write` meets its contract.
use lib.ListN.{length-take, length-drop}
use Rattle.copy.specs.Copy.{rest_of}
use Rattle.writer.specs.Coded.{going_begins, going_more, going_done, going_less}
use native.Mathlib.Omega.{arith}
use Rattle.writer.proofs.coded.write.Goals as goal

pub slice_bounds-bytes-end : goal.slice_bounds-bytes-end
slice_bounds-bytes-end g c = simp length-take (omega (arith, c.run-i.ensures.upto))

pub loop-i-init : goal.loop-i-init
loop-i-init g c = going_begins c.run-i.ensures

pub row-requires : goal.row-requires
row-requires g c = rw rest_of (simp length-drop (omega arith))

pub loop-i-smaller : goal.loop-i-smaller
loop-i-smaller g c = going_less c.run.result (omega arith) c.row.ensures.0

pub loop-i-preserved : goal.loop-i-preserved
loop-i-preserved g c = going_more c.row.result c.run.result c.loop-i.invariant c.row.ensures.1 c.escape_row-to.ensures c.run.ensures c.bytes-to-in-loop-i.ensures

pub shape_of-out : goal.shape_of-out
shape_of-out g c = (going_done c.run-i.ensures c.bytes-to.ensures c.loop-i.invariant (omega arith)).same

pub returns : goal.returns
returns g c = going_done c.run-i.ensures c.bytes-to.ensures c.loop-i.invariant (omega arith)
