-- `literal::attributes` meets its contract. The loop's invariant: the first `j` attributes are written.
use Rattle.literal.specs.Copied.{Copying}
use Rattle.literal.proofs.attributes.Given as goal

abbrev pub invariant-loop-j : goal.invariant-loop-j
invariant-loop-j l = Copying l.initial.area l.area l.scratch l.spans l.k l.at l.to l.j
