-- `pyx::find_spaced` meets its contract. The loop's invariant: `found` is the answer for the bytes before the last that is passed.
use Prim.Native.Nat.{◌-◌}
use lib.ListN.{length}
use Rattle.pyx.proofs.Lines.{Spacing}
use Rattle.pyx.proofs.find_spaced.Given as goal

abbrev pub invariant-loop-i : goal.invariant-loop-i
invariant-loop-i l = Spacing l.event l.i l.found

abbrev pub decreases-loop-i : goal.decreases-loop-i
decreases-loop-i l = length l.event - l.i
