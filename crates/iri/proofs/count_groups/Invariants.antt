-- `iri::count_groups` meets its contract. The loop's invariant: `count` groups have passed, each with its ":", and `left` is left.
use Rattle.iri.proofs.Counting.{Counting}
use Rattle.iri.proofs.count_groups.Given as goal

abbrev pub invariant-loop-count : goal.invariant-loop-count
invariant-loop-count l = Counting l.address l.s l.count l.left
