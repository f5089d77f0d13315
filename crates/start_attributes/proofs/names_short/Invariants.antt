-- `start_attributes::names_short` meets its contract. The loop's invariant: the expanded names of the first `j` attributes are short.
use Rattle.copy.specs.Scan.{Passed}
use Rattle.start_attributes.specs.Short.{short_at}
use Rattle.start_attributes.specs.Places.{places}
use Rattle.start_attributes.proofs.names_short.Given as goal

abbrev pub invariant-loop-j : goal.invariant-loop-j
invariant-loop-j l = Passed (short_at l.scratch l.spans l.work l.classes) (places 0 l.k) l.j
