-- `resolve::path::output_segments` meets its contract. The loop's invariant: the segments before `i` are in the output, and the next ends at `end`.
use Prim.Native.Nat.{◌-◌}
use lib.ListN.{length}
use Rattle.resolve.specs.Output.{Going}
use Rattle.resolve.proofs.path.output_segments.Given as goal

abbrev pub invariant-loop-end : goal.invariant-loop-end
invariant-loop-end l = Going l.path l.more l.initial.area l.area l.from l.initial.o l.o l.i l.end

abbrev pub decreases-loop-end : goal.decreases-loop-end
decreases-loop-end l = length l.path - l.i
