-- `state_inner::innermost` meets its contract.
use Rattle.state_inner.specs.Calls.{sought_begins, sought_more, sought_stop, sought_done}
use native.Mathlib.Omega.{arith}
use Rattle.state_inner.proofs.innermost.Goals as goal

pub loop-i-init : goal.loop-i-init
loop-i-init c = sought_begins

pub returns-then-has-mark-ne0 : goal.returns-then-has-mark-ne0
returns-then-has-mark-ne0 c = sought_stop c.loop-i.invariant (omega arith) c.load-f.ensures c.if-has-mark-ne0.true c.wide.ensures.0 c.wide-then-has-mark-ne0.ensures.0 c.between.ensures

pub loop-i-preserved : goal.loop-i-preserved
loop-i-preserved c = sought_more c.loop-i.invariant (omega arith) c.load-f.ensures c.if-has-mark-ne0.false

pub returns : goal.returns
returns c = sought_done c.loop-i.invariant (omega arith)
