-- `sequence_length`: by a computed test of every byte.
use Rattle.utils.proofs.Computed.{inverted}
use native.Mathlib.Omega.{arith}
use Rattle.utils.proofs.sequence_length.Goals as goal

pub returns : goal.returns
returns c = inverted c.args.first (omega arith)
