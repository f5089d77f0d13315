-- `is_whitespace`: by a computed test of every byte.
use Rattle.utils.proofs.Computed.{whitespace}
use native.Mathlib.Omega.{arith}
use Rattle.utils.proofs.is_whitespace.Goals as goal

pub returns : goal.returns
returns c = whitespace _ (omega arith)
