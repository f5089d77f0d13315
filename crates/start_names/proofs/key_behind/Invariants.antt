-- `start_names::key_behind` meets its contract. The loop's invariant: none of the attributes between `j` and `i` repeats attribute `j`.
use Rattle.start_names.specs.Pairs.{Alone}
use Rattle.start_names.specs.Classes.{same_keys}
use Rattle.start_names.proofs.key_behind.Given as goal

abbrev pub invariant-loop-i : goal.invariant-loop-i
invariant-loop-i l = Alone (same_keys l.scratch l.spans l.work l.classes) l.j l.k l.i
