-- `label::Decimal::of` meets its contract.
use Rattle.spec.specs.NTriples.{digits}
use Rattle.label.specs.Digits.{filled_begins, filled_more, filled_done}
use native.Mathlib.Omega.{arith}
use Rattle.label.proofs.Decimal.of.Goals as goal

pub loop-w-init : goal.loop-w-init
unfolding digits
loop-w-init c = filled_begins (omega arith)

pub loop-w-preserved : goal.loop-w-preserved
loop-w-preserved c = filled_more c.loop-w.invariant (omega arith)

pub returns : goal.returns
returns c = filled_done c.loop-w.invariant (omega arith)
