-- `start_form::marks::next_alike` meets its contract. The loop's invariant: none of those from `from` up to `i` has the marks of `j`.
use Prim.Native.Nat.{◌-◌}
use Rattle.start_form.specs.Marks.{Next}
use Rattle.start_form.proofs.marks.next_alike.Given as goal

abbrev pub invariant-loop-i : goal.invariant-loop-i
invariant-loop-i l = Next l.near l.far l.j l.from l.to l.i

abbrev pub decreases-loop-i : goal.decreases-loop-i
decreases-loop-i l = l.to - l.i
