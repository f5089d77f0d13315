-- `copy::store_arrays` meets its contract.
use Rattle.copy.specs.Copy.{copied-begins, copied_more}
use native.Mathlib.Omega.{arith}
use Rattle.copy.proofs.store_arrays.Goals as goal

pub loop-i-init : goal.loop-i-init
loop-i-init g c = copied-begins c.requires.as_long

pub loop-i-preserved : goal.loop-i-preserved
loop-i-preserved g c = copied_more c.loop-i.invariant (omega arith) (omega arith) c.store_array.ensures
