-- `pyx::first_event` meets its contract. The loop's invariant: a line of the event begins at `at`, what stands before it surely belongs, and what surely belongs from there on is what is left.
use Prim.Native.Nat.{◌-◌}
use Rattle.pyx.proofs.Reach.{Reaching}
use Rattle.pyx.proofs.first_event.Given as goal

abbrev pub invariant-loop-at : goal.invariant-loop-at
invariant-loop-at l = Reaching l.c l.input l.seen l.at

abbrev pub decreases-loop-at : goal.decreases-loop-at
decreases-loop-at l = l.seen - l.at
