-- `start_names::written_behind` meets its contract. The loop's invariant: none of the attributes between `j` and `i` has the name of attribute `j`.
use Rattle.start_names.specs.Pairs.{Alone}
use Rattle.start_names.specs.Repeats.{same_written}
use Rattle.start_names.proofs.written_behind.Given as goal

abbrev pub invariant-loop-i : goal.invariant-loop-i
invariant-loop-i l = Alone (same_written l.scratch l.spans) l.j l.k l.i
