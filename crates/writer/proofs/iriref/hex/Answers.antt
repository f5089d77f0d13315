-- `writer::iriref::hex` meets its contract.
use borrow.Author.Tests.{lt-ltb, le-ltb}
use Rattle.spec.specs.Bytes.{when◌then◌else◌}
use Rattle.spec.specs.NTriples.{hex_digit}
use native.Mathlib.Omega.{arith}
use Rattle.writer.proofs.iriref.hex.Goals as goal

pub returns-then-n-lt10 : goal.returns-then-n-lt10
unfolding hex_digit when◌then◌else◌
returns-then-n-lt10 c = rw (lt-ltb _ _ c.if-n-lt10.true)

pub returns : goal.returns
unfolding hex_digit when◌then◌else◌
returns c = rw (le-ltb _ _ c.if-n-lt10.false) (omega arith)
