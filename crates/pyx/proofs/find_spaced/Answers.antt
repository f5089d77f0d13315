-- `pyx::find_spaced` meets its contract.
use Rattle.pyx.proofs.Lines.{spacing_more, spacing_done}
use native.Mathlib.Omega.{arith}
use Rattle.pyx.proofs.find_spaced.Goals as goal

pub loop-i-preserved : goal.loop-i-preserved
loop-i-preserved c = spacing_more c.loop-i.invariant (omega arith)

pub returns : goal.returns
returns c = spacing_done c.loop-i.invariant (omega arith)
