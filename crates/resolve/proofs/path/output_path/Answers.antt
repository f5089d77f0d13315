-- `resolve::path::output_path` meets its contract: at once, or one by one.
use Rattle.resolve.specs.Output.{whole}
use native.Mathlib.Omega.{arith}
use Rattle.resolve.proofs.path.output_path.Goals as goal

pub store-requires : goal.store-requires
store-requires c = (record { within = c.requires.0.within; few = omega (arith, c.requires.0.few) }, (c.is_simple.ensures c.if-is_simple.true).here, (c.is_simple.ensures c.if-is_simple.true).fits)

pub returns-then-is_simple : goal.returns-then-is_simple
returns-then-is_simple c = whole c.args.path.now c.args.more (c.is_simple.ensures c.if-is_simple.true) (c.store.ensures _ c.requires.1)
