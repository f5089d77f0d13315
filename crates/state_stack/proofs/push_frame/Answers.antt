-- `state_stack::push_frame` meets its contract. A law of specs/ for each return, with the tests that led there.
use Rattle.state_stack.specs.Calls.{push_inside, push_deep, push_short, push_done}
use native.Mathlib.Omega.{arith}
use Rattle.state_stack.proofs.push_frame.Goals as goal

pub returns-then-r-ne0 : goal.returns-then-r-ne0
returns-then-r-ne0 c = push_inside c.if-r-ne0.true

pub returns-then-r-ge-MOST : goal.returns-then-r-ge-MOST
returns-then-r-ge-MOST c = push_deep (omega arith) (omega arith)

pub returns-then-not-store : goal.returns-then-not-store
returns-then-not-store c = push_short (omega arith) (omega arith) c.store.ensures c.if-not-store.true

pub returns : goal.returns
returns c = rw (c.of.ensures, c.wide-top.ensures.0) (push_done (omega arith) (omega arith) c.store.ensures c.if-not-store.false)
