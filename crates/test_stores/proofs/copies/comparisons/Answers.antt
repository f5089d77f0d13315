-- `copies::comparisons`: each check follows from what `copy` ensures of the call.
use Rattle.spec.specs.Bytes.{same}
use Rattle.std.proofs.Common.{not, ap}
use Rattle.test_stores.proofs.copies.comparisons.Goals as goal

pub expect-requires : goal.expect-requires
unfolding same
expect-requires c = c.equal.ensures

pub expect-requires-2 : goal.expect-requires-2
unfolding same
expect-requires-2 c = c.equal-2.ensures

pub expect-requires-3 : goal.expect-requires-3
unfolding same
expect-requires-3 c = ap not c.equal-3.ensures

pub expect-requires-4 : goal.expect-requires-4
unfolding same
expect-requires-4 c = ap not c.equal-4.ensures

pub expect-requires-5 : goal.expect-requires-5
unfolding same
expect-requires-5 c = ap not c.equal-5.ensures
