-- `copy::store_arrays` meets its contract. The loop's invariant: the first `i` elements of `src` stand in `dst`; a turn brings the last array nearer.
use Rattle.std.proofs.Common.{◌-◌}
use Rattle.copy.specs.Copy.{Copied}
use Rattle.copy.proofs.store_arrays.Given as goal

abbrev pub invariant-loop-i : goal.invariant-loop-i
invariant-loop-i g l = Copied l.initial.dst l.src l.dst l.i

abbrev pub decreases-loop-i : goal.decreases-loop-i
decreases-loop-i g l = l.last - l.i
