-- `copies::searches`: each check follows from what `copy` ensures of the call.
use Rattle.spec.specs.Bytes.{up_to}
use Rattle.std.proofs.Common.{eq-eqb}
use Rattle.spec.specs.Bytes.{when◌then◌else◌}
use Rattle.test_stores.proofs.copies.searches.Goals as goal

pub expect-requires : goal.expect-requires
unfolding up_to when◌then◌else◌
expect-requires c = eq-eqb _ _ c.find.ensures

pub expect-requires-2 : goal.expect-requires-2
unfolding up_to when◌then◌else◌
expect-requires-2 c = eq-eqb _ _ c.find-2.ensures

pub expect-requires-3 : goal.expect-requires-3
unfolding up_to when◌then◌else◌
expect-requires-3 c = eq-eqb _ _ c.find-3.ensures

pub expect-requires-4 : goal.expect-requires-4
unfolding up_to when◌then◌else◌
expect-requires-4 c = eq-eqb _ _ c.find-4.ensures
