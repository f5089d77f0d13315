-- `in_ranges`. The invariant: the ranges from the ith number on decide, and they ascend.
use Rattle.utils.proofs.Bounds.{Searching}
use Prim.Native.Nat.{◌-◌}
use lib.ListN.{length}
use Rattle.utils.proofs.in_ranges.Given as goal

abbrev pub invariant-loop-i : goal.invariant-loop-i
invariant-loop-i l = Searching l.bounds l.c l.i

abbrev pub decreases-loop-i : goal.decreases-loop-i
decreases-loop-i l = length l.bounds - l.i
