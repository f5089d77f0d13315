-- `replay::replay_each` ends. The invariant: no more documents are the same than there were, and no more than bytes were passed; what is lent
-- keeps its length. The measure is what is left of the text.
use Prim.Native.Nat.{◌-◌, ◌≤◌}
use mathlib.Core.Path.{◌≡◌}
use lib.ListN.{length}
use Rattle.test_reader.proofs.replay.replay_each.Given as goal

abbrev pub invariant-loop-at : goal.invariant-loop-at
invariant-loop-at l = (l.same ≤ l.count) × (l.count ≤ l.at) × (l.at ≤ length l.text) × (length l.work ≡ length l.initial.work) × (length l.ids ≡ length l.initial.ids) × (length l.out ≡ length l.initial.out)

abbrev pub decreases-loop-at : goal.decreases-loop-at
decreases-loop-at l = length l.text - l.at
