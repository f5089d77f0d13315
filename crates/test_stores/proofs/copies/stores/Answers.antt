-- `copies::stores`: each check follows from what `copy` ensures of the call.
use Rattle.spec.specs.Bytes.{same}
use Rattle.copy.specs.Copy.{stored_at}
use Rattle.std.proofs.Common.{arith}
use Rattle.test_stores.proofs.copies.stores.Goals as goal

pub expect-requires-2 : goal.expect-requires-2
unfolding same stored_at
expect-requires-2 c = rw (c.put.ensures.wrote (omega arith)) at c.equal.ensures
