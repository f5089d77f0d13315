-- `writer::byte` meets its contract: off, full, or stored.
use Rattle.writer.specs.Put.{put_off, put_full, put_all}
use Rattle.copy.specs.Copy.{wrote_one}
use native.Mathlib.Omega.{arith}
use Rattle.writer.proofs.byte.Goals as goal

pub returns-then-not-on : goal.returns-then-not-on
returns-then-not-on c = put_off c.if-not-on.true c.counted.ensures

pub returns-then-out-at : goal.returns-then-out-at
returns-then-out-at c = put_full (omega arith) c.counted-then-out-at.ensures

pub returns : goal.returns
returns c = put_all c.if-not-on.false (omega arith) (wrote_one (omega arith))
