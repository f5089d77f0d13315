-- `resolve::path::starts_dot` meets its contract. The loop's invariant: a "." stands at `at`, and none that begins a segment before it.
use Prim.Native.Nat.{◌-◌}
use lib.ListN.{length}
use Rattle.resolve.specs.Segments.{Seeking}
use Rattle.resolve.proofs.path.starts_dot.Given as goal

abbrev pub invariant-loop-at : goal.invariant-loop-at
invariant-loop-at l = Seeking l.path l.at

abbrev pub decreases-loop-at : goal.decreases-loop-at
decreases-loop-at l = length l.path - l.at
