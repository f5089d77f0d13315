-- `start_names::held` meets its contract. The loop's invariant: none of the rows from `i` on binds the prefix.
use Rattle.start_names.specs.Found.{Sought}
use Rattle.start_names.proofs.held.Given as goal

abbrev pub invariant-loop-i : goal.invariant-loop-i
invariant-loop-i l = Sought l.prefix l.work l.bindings l.n l.i
