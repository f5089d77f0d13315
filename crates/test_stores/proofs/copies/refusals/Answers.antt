-- `copies::refusals`: each check follows from what `copy` ensures of the call.
use Rattle.spec.specs.Bytes.{same}
use Rattle.std.proofs.Common.{not, ap, arith}
use Rattle.copy.specs.Copy.{put_refuses}
use Rattle.test_stores.proofs.copies.refusals.Goals as goal

pub expect-requires-2 : goal.expect-requires-2
expect-requires-2 c = ap not (put_refuses c.put-2.ensures (omega arith))

pub expect-requires-3 : goal.expect-requires-3
expect-requires-3 c = ap not (put_refuses c.put-3.ensures (omega arith))

pub expect-requires-4 : goal.expect-requires-4
unfolding same
expect-requires-4 c = rw (c.put-3.ensures.kept (omega arith), c.put-2.ensures.kept (omega arith), c.put.ensures.kept (omega arith)) at c.equal.ensures
