-- `start_names::count_declared` meets its contract. The loop's invariant: `n` of the first `j` attributes are declarations.
use Rattle.start_names.specs.Declarations.{Counted}
use Rattle.start_names.proofs.count_declared.Given as goal

abbrev pub invariant-loop-j : goal.invariant-loop-j
invariant-loop-j l = Counted l.scratch l.spans l.k l.j l.n
