-- `resolve::parts::until` meets its contract. The loop's invariant: none of the first `i` bytes is of the set.
use Rattle.spec.specs.Bytes.{among}
use Rattle.copy.specs.Scan.{Sought}
use Rattle.resolve.proofs.parts.until.Given as goal

abbrev pub invariant-loop-i : goal.invariant-loop-i
invariant-loop-i l = Sought (among l.set) l.s l.i
