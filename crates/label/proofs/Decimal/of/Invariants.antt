-- `label::Decimal::of` meets its contract. The loop's invariant: from `i` on stand the last digits, before it zeros,
-- and `w` is the number without them.
use Rattle.label.specs.Digits.{Filled}
use Rattle.label.proofs.Decimal.of.Given as goal

abbrev pub invariant-loop-w : goal.invariant-loop-w
invariant-loop-w l = Filled l.v l.w l.digits l.i

abbrev pub decreases-loop-w : goal.decreases-loop-w
decreases-loop-w l = l.w
