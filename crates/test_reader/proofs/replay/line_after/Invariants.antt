-- `replay::line_after` meets its contract. The invariant: the place looked at is not before the first one.
use Prim.Native.Nat.{◌≤◌}
use Rattle.test_reader.proofs.replay.line_after.Given as goal

abbrev pub invariant-loop-i : goal.invariant-loop-i
invariant-loop-i l = l.from ≤ l.i
