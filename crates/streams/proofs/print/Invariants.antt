-- `streams::print` meets its contract. The loop's invariant: a write was made only where there was more to write. The measure is what is left.
use Rattle.streams.specs.Deciding.{Going, left}
use lib.ListN.{length}
use Rattle.streams.proofs.print.Given as goal

abbrev pub invariant-loop-taken : goal.invariant-loop-taken
invariant-loop-taken g l = Going (length l.text) l.printing

abbrev pub decreases-loop-taken : goal.decreases-loop-taken
decreases-loop-taken g l = left l.printing
