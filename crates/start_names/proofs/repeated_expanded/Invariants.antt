-- `start_names::repeated_expanded` meets its contract. The loop's invariant: none of the first `j` attributes is repeated.
use Rattle.start_names.specs.Pairs.{Unpaired}
use Rattle.start_names.specs.Classes.{same_keys}
use Rattle.start_names.proofs.repeated_expanded.Given as goal

abbrev pub invariant-loop-j : goal.invariant-loop-j
invariant-loop-j l = Unpaired (same_keys l.scratch l.spans l.work l.classes) l.k l.j
