-- `copy::find` meets its contract. The loop's invariant: there is no `b` among the first `i` bytes.
use lib.Dec.{eqb}
use Rattle.copy.specs.Scan.{Sought}
use Rattle.copy.proofs.find.Given as goal

abbrev pub invariant-loop-i : goal.invariant-loop-i
invariant-loop-i l = Sought (λ c. eqb c l.b) l.s l.i
