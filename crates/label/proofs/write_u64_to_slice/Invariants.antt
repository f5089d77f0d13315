-- `label::write_u64_to_slice` meets its contract. The loop's invariant: from `i` on the slice holds the last digits, and `v` is the number without them.
use lib.ListN.{length}
use Rattle.label.specs.Digits.{Written}
use Rattle.label.proofs.write_u64_to_slice.Given as goal

abbrev pub invariant-loop-i : goal.invariant-loop-i
invariant-loop-i l = Written (length l.initial.s) l.initial.v l.v l.s l.i
