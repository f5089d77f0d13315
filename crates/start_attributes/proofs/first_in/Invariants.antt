-- `start_attributes::first_in` meets its contract. The loop's invariant: none of the first `i` attributes has the role.
use lib.Dec.{eqb}
use Rattle.copy.specs.Scan.{Sought}
use Rattle.start_attributes.proofs.first_in.Given as goal

abbrev pub invariant-loop-i : goal.invariant-loop-i
invariant-loop-i l = Sought (λ c. eqb c l.word) l.within l.i
