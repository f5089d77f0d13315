-- `start_form::marks::mark` meets its contract. The loop's invariant: `i` bytes are in the number.
use mathlib.Core.List.{◌++◌}
use Rattle.start_form.specs.Marks.{Marking}
use Rattle.start_form.proofs.marks.mark.Given as goal

abbrev pub invariant-loop-i : goal.invariant-loop-i
invariant-loop-i l = Marking (l.front ++ l.back) l.skip l.i l.m
