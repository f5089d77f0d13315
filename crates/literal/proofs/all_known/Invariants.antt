-- `literal::all_known` meets its contract. The loop's invariant: the prefixes of the first `j` attributes are known.
use Rattle.start_names.specs.Found.{scope}
use Rattle.literal.specs.Known.{Knowing}
use Rattle.literal.proofs.all_known.Given as goal

abbrev pub invariant-loop-j : goal.invariant-loop-j
invariant-loop-j l = Knowing (scope l.scratch l.spans l.k l.work l.bindings l.n) l.scratch l.spans l.k l.j
