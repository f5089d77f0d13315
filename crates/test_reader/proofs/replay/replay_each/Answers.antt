-- `replay::replay_each` ends. The invariant: no more documents are the same than there were, and no more than bytes were passed; what is lent
-- keeps its length. The measure is what is left of the text.
use native.Mathlib.Omega.{arith}
use borrow.Author.Rules.{rules}
use Rattle.test_reader.specs.Lines.{goes_on_lem}
use Rattle.test_reader.proofs.replay.replay_each.Goals as goal

pub loop-at-smaller : goal.loop-at-smaller
loop-at-smaller c = omega (arith, goes_on_lem c.line_with-end.ensures c.line_after-at.ensures (omega arith))

pub loop-at-preserved : goal.loop-at-preserved
loop-at-preserved c = let h = goes_on_lem c.line_with-end.ensures c.line_after-at.ensures (omega arith) in search rules
