-- `coded::write` meets its contract. The loop's invariant: whoever wrote the first run has written the first `i` bytes now.
use Prim.Native.Nat.{◌-◌}
use lib.ListN.{length}
use Rattle.writer.specs.Coded.{Going}
use Rattle.writer.proofs.coded.write.Given as goal

abbrev pub invariant-loop-i : goal.invariant-loop-i
invariant-loop-i g l = Going g.C.Coding.byte_of l.on l.initial.out l.out l.initial.to l.to l.s l.initial.i l.i

abbrev pub decreases-loop-i : goal.decreases-loop-i
decreases-loop-i g l = length l.s - l.i
