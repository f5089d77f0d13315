-- `iri::cut_gap` meets its contract. The loop's invariant: no "::" begins in the first `i` bytes.
use Rattle.iri.proofs.Searches.{Gapless}
use Rattle.iri.proofs.cut_gap.Given as goal

abbrev pub invariant-loop-i : goal.invariant-loop-i
invariant-loop-i l = Gapless l.s l.i
