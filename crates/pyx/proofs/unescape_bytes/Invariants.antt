-- `pyx::unescape_bytes` meets its contract. The loop's invariant, `Passed`: what the first `i` bytes stand for is written, in front of what is left.
use Prim.Native.Nat.{◌-◌}
use lib.ListN.{length}
use Rattle.pyx.proofs.Escapes.{Passed}
use Rattle.pyx.proofs.unescape_bytes.Given as goal

abbrev pub invariant-loop-i : goal.invariant-loop-i
invariant-loop-i l = Passed l.s l.initial.scratch l.scratch l.at l.i l.to

abbrev pub decreases-loop-i : goal.decreases-loop-i
decreases-loop-i l = length l.s - l.i
