-- `coded::row` meets its contract. The loop's invariant: one byte at least, and no more than there are.
use Prim.Native.Nat.{◌<◌, ◌≤◌}
use lib.ListN.{length}
use Rattle.writer.proofs.coded.row.Given as goal

abbrev pub invariant-loop-i : goal.invariant-loop-i
invariant-loop-i g l = (0 < l.i) × (l.i ≤ length l.s)
