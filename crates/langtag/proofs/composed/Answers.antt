-- `langtag::composed`.
use Rattle.langtag.proofs.Machine.{reading_begins, reading_more, reading_done}
use native.Mathlib.Omega.{arith}
use Rattle.langtag.proofs.composed.Goals as goal

pub loop-b-init : goal.loop-b-init
loop-b-init c = reading_begins c.start-reader.ensures

pub loop-b-preserved : goal.loop-b-preserved
loop-b-preserved c = reading_more c.loop-b.invariant (omega arith) c.step-reader.ensures

pub returns : goal.returns
returns c = reading_done c.loop-b.invariant (omega arith) c.ended.ensures c.is_final.ensures
