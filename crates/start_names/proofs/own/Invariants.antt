-- `start_names::own` meets its contract. The loop's invariant: none of the first `j` attributes binds the prefix.
use Rattle.start_names.specs.Found.{Passed}
use Rattle.start_names.proofs.own.Given as goal

abbrev pub invariant-loop-j : goal.invariant-loop-j
invariant-loop-j l = Passed l.prefix l.scratch l.spans l.k l.j
