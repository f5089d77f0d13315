-- `resolve::path::through_last` meets its contract. The loop's invariant: there is no "/" from `i` on.
use Rattle.resolve.specs.Last.{Backwards}
use Rattle.resolve.proofs.path.through_last.Given as goal

abbrev pub invariant-loop-i : goal.invariant-loop-i
invariant-loop-i l = Backwards l.s l.i
