-- `state_stack::nodes::child_at` meets its contract. A law of specs/ for each return, with the tests that led there.
use Rattle.state_stack.specs.Take.{no_child-below, no_child-above, a_child}
use native.Mathlib.Omega.{arith}
use Rattle.state_stack.proofs.nodes.child_at.Goals as goal

pub returns-then-e-lt4 : goal.returns-then-e-lt4
returns-then-e-lt4 c = no_child-below _ _ (omega arith)

pub returns-then-work-e : goal.returns-then-work-e
returns-then-work-e c = no_child-above _ _ (omega arith) (omega arith)

pub returns : goal.returns
returns c = a_child _ _ (omega arith) (omega arith) (rw (c.byte.ensures.0, c.byte-2.ensures.0)) c.saturating_sub.ensures
