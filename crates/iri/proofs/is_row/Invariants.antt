-- `iri::is_row` meets its contract. The loop's invariant: the bytes up to `at` are places of the row, and the whole is a row if the rest is one.
use Prim.Native.Nat.{◌-◌}
use lib.ListN.{length}
use Rattle.iri.specs.Parts.{Walked}
use Rattle.iri.proofs.is_row.Given as goal

abbrev pub invariant-loop-at : goal.invariant-loop-at
invariant-loop-at l = Walked l.part l.s l.at

abbrev pub decreases-loop-at : goal.decreases-loop-at
decreases-loop-at l = length l.s - l.at
