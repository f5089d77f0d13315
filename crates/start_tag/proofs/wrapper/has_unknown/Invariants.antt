-- `start_tag::wrapper::has_unknown` meets its contract. The loop's invariant: the prefixes of the first `j` attributes are known.
use Rattle.copy.specs.Scan.{Passed}
use Rattle.start_attributes.specs.Places.{places}
use Rattle.start_tag.specs.Wrapper.{known_at}
use Rattle.start_tag.proofs.wrapper.has_unknown.Given as goal

abbrev pub invariant-loop-j : goal.invariant-loop-j
invariant-loop-j l = Passed (known_at l.classes) (places 0 l.k) l.j
