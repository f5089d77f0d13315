-- `state_inner::held` meets its contract. A law of specs/ for each return, with the tests that led there.
use Rattle.state_inner.specs.Calls.{held_wild, held_crossed, held_is}
use native.Mathlib.Omega.{arith}
use Rattle.state_inner.proofs.held.Goals as goal

pub returns-then-r-gt-STORE : goal.returns-then-r-gt-STORE
returns-then-r-gt-STORE c = held_wild _ (omega arith)

pub returns-then-r : goal.returns-then-r
returns-then-r c = held_crossed _ (omega arith) (omega arith)

pub returns : goal.returns
returns c = rw c.saturating_sub.ensures (held_is _ (omega arith) (omega arith))
