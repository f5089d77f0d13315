-- `is_plain_start`: by a computed test of every byte.
use Rattle.utils.proofs.Computed.{plain_start}
use native.Mathlib.Omega.{arith}
use Rattle.utils.proofs.is_plain_start.Goals as goal

pub returns-then-b : goal.returns-then-b
returns-then-b c = rw c.if-b.true at (plain_start c.args.b (omega arith))

pub returns : goal.returns
returns c = rw c.if-b.false at (plain_start c.args.b (omega arith))
