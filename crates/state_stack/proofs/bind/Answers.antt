-- `state_stack::bind` meets its contract. A law of specs/ for each return, with the tests that led there.
use Rattle.state_stack.specs.Calls.{bind_large, bind_full, bind_short, bind_done}
use native.Mathlib.Omega.{arith}
use Rattle.state_stack.proofs.bind.Goals as goal

pub returns-then-work-gt-STORE : goal.returns-then-work-gt-STORE
returns-then-work-gt-STORE c = bind_large (omega arith)

pub returns-then-work-at : goal.returns-then-work-at
returns-then-work-at c = bind_full (omega arith) (omega arith)

pub returns-then-work-at-2 : goal.returns-then-work-at-2
returns-then-work-at-2 c = bind_full (omega arith) (omega arith)

pub returns-then-work-middle : goal.returns-then-work-middle
returns-then-work-middle c = bind_full (omega arith) (omega arith)

pub returns-then-not-store : goal.returns-then-not-store
returns-then-not-store c = bind_short (omega arith) (omega arith) c.store.ensures c.if-not-store.true

pub returns : goal.returns
returns c = bind_done (omega arith) (omega arith) c.store.ensures c.if-not-store.false c.put.ensures c.put-2.ensures
