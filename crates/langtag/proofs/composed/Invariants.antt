-- `langtag::composed`. The loop's invariant: the machine goes on from `reader` over the rest as it does from the start over the whole.
use Rattle.langtag.proofs.Machine.{Reading}
use Rattle.langtag.proofs.composed.Given as goal

abbrev pub invariant-loop-b : goal.invariant-loop-b
invariant-loop-b l = Reading l.s l.reader l.b-index
