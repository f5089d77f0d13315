-- `copy::equal_from_end` meets its contract. The loop's invariant: the bytes from `n` on are the same; a turn makes `n` smaller.
use Rattle.copy.specs.Blocks.{Tails}
use Rattle.copy.proofs.equal_from_end.Given as goal

abbrev pub invariant-loop-n : goal.invariant-loop-n
invariant-loop-n l = Tails l.a l.b l.n

abbrev pub decreases-loop-n : goal.decreases-loop-n
decreases-loop-n l = l.n
