-- `streams::keep_to_line` meets its contract.
use native.Mathlib.Omega.{arith}
use Rattle.streams.specs.Telling.{kept_first, kept_next, kept_all}
use Rattle.streams.proofs.keep_to_line.Goals as goal

pub loop-b-init : goal.loop-b-init
loop-b-init c = kept_first

pub loop-b-preserved : goal.loop-b-preserved
loop-b-preserved c = kept_next c.loop-b.invariant (omega arith) c.in_line.ensures

pub returns : goal.returns
returns c = kept_all c.loop-b.invariant (omega arith)
