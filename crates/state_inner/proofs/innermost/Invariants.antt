-- `state_inner::innermost` meets its contract. The loop's invariant: what is sought is among the first `i` frames.
use Rattle.state_inner.specs.Calls.{Sought}
use Rattle.state_inner.proofs.innermost.Given as goal

abbrev pub invariant-loop-i : goal.invariant-loop-i
invariant-loop-i l = Sought l.frames l.mark l.place l.depth l.i
