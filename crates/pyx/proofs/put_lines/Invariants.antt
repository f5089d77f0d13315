-- `pyx::put_lines` meets its contract. The loop's invariant, `Texting`: the data of the lines passed stand in front of those of the lines from `at` on.
use Prim.Native.Nat.{◌-◌}
use lib.ListN.{length}
use Rattle.pyx.proofs.Escapes.{Texting}
use Rattle.pyx.proofs.put_lines.Given as goal

abbrev pub invariant-loop-at : goal.invariant-loop-at
invariant-loop-at l = Texting l.event l.initial.scratch l.scratch l.at l.used

abbrev pub decreases-loop-at : goal.decreases-loop-at
decreases-loop-at l = length l.event - l.at
