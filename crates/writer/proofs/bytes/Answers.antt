-- `writer::bytes` meets its contract: off, full, all stored, or what there is room for.
use lib.ListN.{length-take}
use Rattle.writer.specs.Put.{put_off, put_full, put_all, put-part}
use Rattle.copy.specs.Copy.{put-fits}
use native.Mathlib.Omega.{arith}
use Rattle.writer.proofs.bytes.Goals as goal

pub returns-then-not-on : goal.returns-then-not-on
returns-then-not-on c = put_off c.if-not-on.true c.counted.ensures

pub returns-then-out-at : goal.returns-then-out-at
returns-then-out-at c = put_full (omega arith) c.counted-then-out-at.ensures

pub returns-then-src-room : goal.returns-then-src-room
returns-then-src-room c = put_all c.if-not-on.false (omega arith) (put-fits c.put.ensures (omega arith))

pub slice_bounds-put-end : goal.slice_bounds-put-end
slice_bounds-put-end c = simp length-take (omega arith)

pub shape_of-out : goal.shape_of-out
shape_of-out c = c.out-2-1.given

pub returns : goal.returns
returns c = put-part c.if-not-on.false (omega arith) c.counted-2.ensures (put-fits c.put-2.ensures (simp length-take (omega arith)))
