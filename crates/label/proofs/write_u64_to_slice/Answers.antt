-- `label::write_u64_to_slice` meets its contract.
use Rattle.label.specs.Digits.{written_more, written_done}
use native.Mathlib.Omega.{arith}
use Rattle.label.proofs.write_u64_to_slice.Goals as goal

pub loop-i-preserved : goal.loop-i-preserved
loop-i-preserved c = written_more c.loop-i.invariant (omega arith)

pub returns : goal.returns
returns c = written_done c.loop-i.invariant (omega arith)
