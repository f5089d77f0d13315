-- `pyx::put_plain_name` meets its contract. The loop's invariant: the first `i` bytes are spelled, and copied.
use Prim.Native.Nat.{◌+◌}
use lib.ListN.{take}
use Rattle.copy.specs.Copy.{Wrote}
use Rattle.pyx.specs.Names.{Spelled}
use Rattle.pyx.proofs.put_plain_name.Given as goal

abbrev pub invariant-loop-i : goal.invariant-loop-i
invariant-loop-i l = Spelled l.name l.i l.part × Wrote l.initial.scratch l.scratch l.at (l.at + l.i) (take l.i l.name)
