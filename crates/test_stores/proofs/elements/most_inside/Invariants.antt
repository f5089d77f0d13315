-- `elements::most_inside` meets its contract. The loop's invariant: the table keeps its length.
use Rattle.std.proofs.Common.{◌≡◌, ◌-◌, ◌≤◌, length}
use Rattle.test_stores.proofs.elements.most_inside.Given as goal

abbrev pub invariant-loop-n : goal.invariant-loop-n
invariant-loop-n l = (l.n ≤ 70) × (length l.inners ≡ 192)

abbrev pub decreases-loop-n : goal.decreases-loop-n
decreases-loop-n l = 70 - l.n
