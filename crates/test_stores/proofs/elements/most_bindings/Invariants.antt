-- `elements::most_bindings` meets its contract. The loop's invariant: table and store keep their lengths.
use Rattle.std.proofs.Common.{◌≡◌, ◌-◌, ◌≤◌, length}
use Rattle.test_stores.proofs.elements.most_bindings.Given as goal

abbrev pub invariant-loop-n : goal.invariant-loop-n
invariant-loop-n l = (l.n ≤ 200) × (length l.bindings ≡ 384) × (length l.work ≡ 65536)

abbrev pub decreases-loop-n : goal.decreases-loop-n
decreases-loop-n l = 200 - l.n
