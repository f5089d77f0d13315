-- `state_inner::open_inside` meets its contract. A law of specs/ for each return, with the tests that led there.
use Rattle.state_inner.specs.Calls.{open_deep, open_far, open_long, open_many, open_short, open_done}
use native.Mathlib.Omega.{arith}
use Rattle.state_inner.proofs.open_inside.Goals as goal

pub returns-then-r-gt-MOST : goal.returns-then-r-gt-MOST
returns-then-r-gt-MOST c = open_deep (omega arith)

pub returns-then-r : goal.returns-then-r
returns-then-r c = open_deep (omega arith)

pub returns-then-at-gt-STORE : goal.returns-then-at-gt-STORE
returns-then-at-gt-STORE c = open_far (omega arith) (omega arith)

pub returns-then-name-gt-STORE : goal.returns-then-name-gt-STORE
returns-then-name-gt-STORE c = open_long (omega arith) (omega arith) (omega arith)

pub returns-then-r-gt-MOST_BINDINGS : goal.returns-then-r-gt-MOST_BINDINGS
returns-then-r-gt-MOST_BINDINGS c = open_many (omega arith) (omega arith) (omega arith) (omega arith)

pub returns-then-not-store : goal.returns-then-not-store
returns-then-not-store c = open_short (omega arith) (omega arith) (omega arith) (omega arith) c.store.ensures c.if-not-store.true

pub returns : goal.returns
returns c = open_done (omega (arith, c.if-r-gt-MOST.false, c.if-r.false)) (omega (arith, c.if-at-gt-STORE.false)) (omega (arith, c.if-name-gt-STORE.false)) (omega (arith, c.if-r-gt-MOST_BINDINGS.false)) c.store.ensures c.if-not-store.false c.inside.ensures
