-- `is_printable`. The invariant: the bytes passed are printable, so the rest decides.
use lib.ListN.{length}
use Prim.Native.Nat.{◌-◌}
use Rattle.spec.specs.Bytes.{every}
use Rattle.utils.specs.Plain.{printable}
use Rattle.utils.specs.Walking.{Walked}
use Rattle.utils.proofs.is_printable.Given as goal

abbrev pub invariant-loop-i : goal.invariant-loop-i
invariant-loop-i l = Walked (every printable) l.s l.i

abbrev pub decreases-loop-i : goal.decreases-loop-i
decreases-loop-i l = length l.s - l.i
