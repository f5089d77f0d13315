-- `state_stack::write_tail` meets its contract. A law of specs/ for each return, with the tests that led there.
use Rattle.state_stack.specs.Calls.{tail_empty, tail_large, tail_beyond, tail_full, tail_short, tail_done}
use native.Mathlib.Omega.{arith}
use Rattle.state_stack.proofs.write_tail.Goals as goal

pub returns-then-r-eq0 : goal.returns-then-r-eq0
returns-then-r-eq0 c = tail_empty c.if-r-eq0.true

pub returns-then-low-gt-STORE : goal.returns-then-low-gt-STORE
returns-then-low-gt-STORE c = tail_large c.if-r-eq0.false (omega arith)

pub returns-then-work-low : goal.returns-then-work-low
returns-then-work-low c = tail_beyond c.if-r-eq0.false (omega arith) (omega arith)

pub returns-then-low-from : goal.returns-then-low-from
returns-then-low-from c = tail_full c.if-r-eq0.false (omega arith) (omega arith) (omega arith)

pub returns-then-low-from-2 : goal.returns-then-low-from-2
returns-then-low-from-2 c = tail_full c.if-r-eq0.false (omega arith) (omega arith) (omega arith)

pub returns-then-not-store : goal.returns-then-not-store
returns-then-not-store c = tail_short c.if-r-eq0.false (omega arith) (omega arith) (omega arith) c.store.ensures c.if-not-store.true

pub returns : goal.returns
returns c = tail_done c.if-r-eq0.false (omega (arith, c.if-low-gt-STORE.false)) (omega (arith, c.if-work-low.false)) (omega (arith, c.if-low-from.false, c.if-low-from-2.false)) c.store.ensures c.if-not-store.false c.put.ensures c.with_top.ensures
