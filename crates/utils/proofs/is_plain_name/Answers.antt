-- `is_plain_name`: by a computed test of every byte.
use Rattle.utils.proofs.Computed.{plain-name}
use native.Mathlib.Omega.{arith}
use Rattle.utils.proofs.is_plain_name.Goals as goal

pub returns-then-is_plain_start : goal.returns-then-is_plain_start
returns-then-is_plain_start c = rw (← c.is_plain_start.ensures, c.if-is_plain_start.true) at (plain-name c.args.b (omega arith))

pub returns : goal.returns
returns c = rw (← c.is_plain_start.ensures, c.if-is_plain_start.false) at (plain-name c.args.b (omega arith))
