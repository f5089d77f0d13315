-- `start_names::all_legal` meets its contract. The loop's invariant: each declaration among the first `j` attributes is legal.
use Rattle.start_names.specs.Declarations.{Legal}
use Rattle.start_names.proofs.all_legal.Given as goal

abbrev pub invariant-loop-j : goal.invariant-loop-j
invariant-loop-j l = Legal l.scratch l.spans l.k l.j
