-- `copies::beginnings`: each check follows from what `copy` ensures of the call.
use Rattle.spec.specs.Bytes.{begins}
use Rattle.std.proofs.Common.{not, ap}
use Rattle.test_stores.proofs.copies.beginnings.Goals as goal

pub expect-requires : goal.expect-requires
unfolding begins
expect-requires c = c.begins.ensures

pub expect-requires-2 : goal.expect-requires-2
unfolding begins
expect-requires-2 c = c.begins-2.ensures

pub expect-requires-3 : goal.expect-requires-3
unfolding begins
expect-requires-3 c = c.begins-3.ensures

pub expect-requires-4 : goal.expect-requires-4
unfolding begins
expect-requires-4 c = ap not c.begins-4.ensures

pub expect-requires-5 : goal.expect-requires-5
unfolding begins
expect-requires-5 c = ap not c.begins-5.ensures
