-- `start_references::reference::resolved_id` meets its contract, by the value's length.
use native.Mathlib.Omega.{arith}
use Rattle.start_references.proofs.reference.resolved_id.Goals as goal

pub hashed-requires : goal.hashed-requires
hashed-requires c = (c.requires, c.if-value-lt-FEW.true, omega arith)

pub hashed-requires-2 : goal.hashed-requires-2
hashed-requires-2 c = (c.requires, omega (arith, c.requires.from), omega arith)

pub returns-then-value-lt-FEW : goal.returns-then-value-lt-FEW
returns-then-value-lt-FEW c = c.hashed.ensures

pub returns : goal.returns
returns c = c.hashed-2.ensures
