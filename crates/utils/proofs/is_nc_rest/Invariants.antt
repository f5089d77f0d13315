-- `is_nc_rest`. The invariant: the characters passed are good, so the rest decides.
use lib.ListN.{length}
use Prim.Native.Nat.{◌-◌}
use Rattle.utils.specs.Names.{is_nc_rest}
use Rattle.utils.specs.Walking.{Walked}
use Rattle.utils.proofs.is_nc_rest.Given as goal

abbrev pub invariant-loop-i : goal.invariant-loop-i
invariant-loop-i l = Walked is_nc_rest l.s l.i

abbrev pub decreases-loop-i : goal.decreases-loop-i
decreases-loop-i l = length l.s - l.i
