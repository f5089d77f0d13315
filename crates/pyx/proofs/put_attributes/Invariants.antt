-- `pyx::put_attributes` meets its contract. The loop's invariant, `Laying`: the attributes read so far stand in front of those of the lines from `at` on, and the words tell where they are.
use Prim.Native.Nat.{◌-◌}
use lib.ListN.{length}
use Rattle.pyx.proofs.Attributes.{Laying}
use Rattle.pyx.proofs.put_attributes.Given as goal

abbrev pub invariant-loop-at : goal.invariant-loop-at
invariant-loop-at l = Laying l.event l.from l.size l.initial.scratch l.scratch l.initial.spans l.spans l.at l.used l.k

abbrev pub decreases-loop-at : goal.decreases-loop-at
decreases-loop-at l = length l.event - l.at
