-- `start_names::repeated_written` meets its contract. The loop's invariant: none of the first `j` attributes has its name repeated.
use Rattle.start_names.specs.Pairs.{Unpaired}
use Rattle.start_names.specs.Repeats.{same_written}
use Rattle.start_names.proofs.repeated_written.Given as goal

abbrev pub invariant-loop-j : goal.invariant-loop-j
invariant-loop-j l = Unpaired (same_written l.scratch l.spans) l.k l.j
