-- `start_element::declared_size` meets its contract. The loop's invariant: the first `j` attributes have `n` bytes.
use Rattle.start_element.specs.Sizes.{Summed}
use Rattle.start_element.proofs.declared_size.Given as goal

abbrev pub invariant-loop-j : goal.invariant-loop-j
invariant-loop-j l = Summed l.scratch l.spans l.k l.j l.n
