-- `copy::find` meets its contract.
use borrow.Author.Tests.{eq-eqb, ne_eqb}
use Rattle.copy.specs.Scan.{sought_stop, sought_more, sought_done}
use native.Mathlib.Omega.{arith}
use Rattle.copy.proofs.find.Goals as goal

pub returns-then-s-i : goal.returns-then-s-i
returns-then-s-i c = sought_stop c.loop-i.invariant (omega arith) (eq-eqb _ _ c.if-s-i.true)

pub loop-i-preserved : goal.loop-i-preserved
loop-i-preserved c = sought_more c.loop-i.invariant (omega arith) (ne_eqb _ _ c.if-s-i.false)

pub returns : goal.returns
returns c = omega (arith, sought_done c.loop-i.invariant (omega arith))
