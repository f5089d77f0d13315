-- `join`. The invariant: what is left, joined to the value so far, gives what the whole does.
use Rattle.utils.proofs.Decoding.{Joining}
use Rattle.utils.proofs.join.Given as goal

abbrev pub invariant-loop-b : goal.invariant-loop-b
invariant-loop-b l = Joining l.bits l.s l.value l.b-index
