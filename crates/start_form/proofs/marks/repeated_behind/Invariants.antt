-- `start_form::marks::repeated_behind` meets its contract. The loop's invariant: none of the attributes between `j` and `i` repeats attribute `j`.
use Prim.Native.Nat.{◌-◌}
use Rattle.start_names.specs.Pairs.{Alone}
use Rattle.start_names.specs.Classes.{same_keys}
use Rattle.start_form.proofs.marks.repeated_behind.Given as goal

abbrev pub invariant-loop-i : goal.invariant-loop-i
invariant-loop-i l = Alone (same_keys l.scratch l.spans l.work l.classes) l.j l.k l.i

abbrev pub decreases-loop-i : goal.decreases-loop-i
decreases-loop-i l = l.k - l.i
