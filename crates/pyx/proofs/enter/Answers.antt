-- `pyx::enter` meets its contract. Four words in a row are one write.
use native.Mathlib.Omega.{arith}
use Rattle.pyx.proofs.Attributes.{entered}
use Rattle.pyx.proofs.enter.Goals as goal

pub returns : goal.returns
returns c = entered _ _ (omega arith)
