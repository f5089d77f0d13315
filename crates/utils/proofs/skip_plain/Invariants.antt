-- `skip_plain`. The invariant: the bytes passed are plain, so the rest decides.
use lib.ListN.{length}
use Prim.Native.Nat.{◌-◌}
use Rattle.spec.specs.Bytes.{every}
use Rattle.spec.specs.Utf8.{as_characters}
use Rattle.spec.specs.XmlNames.{is_char}
use Rattle.utils.specs.Walking.{Walked}
use Rattle.utils.proofs.skip_plain.Given as goal

abbrev pub invariant-loop-i : goal.invariant-loop-i
invariant-loop-i l = Walked (as_characters (every is_char)) l.s l.i

abbrev pub decreases-loop-i : goal.decreases-loop-i
decreases-loop-i l = length l.s - l.i
