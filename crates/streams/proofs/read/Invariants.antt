-- `streams::read` meets its contract. The loop's invariant: no more was moved than there is room for. The measure is the tries that are left.
use mathlib.Core.Path.{◌≡◌}
use lib.ListN.{length}
use Rattle.streams.specs.Answers.{AtMost}
use Rattle.streams.proofs.read.Given as goal

abbrev pub invariant-loop-moved : goal.invariant-loop-moved
invariant-loop-moved g l = AtMost (length l.initial.into) l.moved × (length l.into ≡ length l.initial.into)

abbrev pub decreases-loop-moved : goal.decreases-loop-moved
decreases-loop-moved g l = l.tries
