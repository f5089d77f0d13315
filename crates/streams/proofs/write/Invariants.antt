-- `streams::write` meets its contract. The loop's invariant: no more was moved than there is. The measure is the tries that are left.
use lib.ListN.{length}
use Rattle.streams.specs.Answers.{AtMost}
use Rattle.streams.proofs.write.Given as goal

abbrev pub invariant-loop-moved : goal.invariant-loop-moved
invariant-loop-moved g l = AtMost (length l.text) l.moved

abbrev pub decreases-loop-moved : goal.decreases-loop-moved
decreases-loop-moved g l = l.tries
