-- `state::children_ok` meets its contract.
use Rattle.state.specs.Tests.{child-begins, child_stop, child_more, child_done}
use native.Mathlib.Omega.{arith}
use Rattle.state.proofs.children_ok.Goals as goal

pub loop-left-init : goal.loop-left-init
loop-left-init c = child-begins

pub returns-then-e-from : goal.returns-then-e-from
returns-then-e-from c = child_stop c.loop-left.invariant (omega arith) (omega arith)

pub returns-then-e-from-2 : goal.returns-then-e-from-2
returns-then-e-from-2 c = child_stop c.loop-left.invariant (omega arith) (omega arith)

pub loop-left-preserved : goal.loop-left-preserved
loop-left-preserved c = rw c.child_size-size.ensures.0 (child_more c.loop-left.invariant (omega arith) (omega arith))

pub returns : goal.returns
returns c = child_done c.loop-left.invariant (omega arith)
