-- `elements::deepest` meets its contract. The loop's invariant: the table keeps its length.
use Rattle.std.proofs.Common.{◌≡◌, length}
use Rattle.test_stores.proofs.elements.deepest.Given as goal

abbrev pub invariant-loop-n : goal.invariant-loop-n
invariant-loop-n l = length l.frames ≡ 1152
