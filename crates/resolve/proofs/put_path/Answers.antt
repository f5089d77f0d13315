-- `resolve::put_path` meets its contract.
use Prim.Native.Nat.{◌-◌}
use Rattle.copy.specs.Copy.{part, length_part}
use Rattle.resolve.specs.Target.{led}
use Rattle.resolve.specs.Resolve.{pathed_own, pathed_merged}
use native.Mathlib.Omega.{arith}
use Rattle.resolve.proofs.put_path.Goals as goal

pub shape_of-area-in-None : goal.shape_of-area-in-None
shape_of-area-in-None c = c.area-1.given

pub returns-in-None : goal.returns-in-None
unfolding part
returns-in-None c = pathed_own c.args.base.now c.args.reference.now c.args.target c.in-None.is c.output_path.ensures

pub output_path-requires-in-Some : goal.output_path-requires-in-Some
unfolding part
output_path-requires-in-Some c = (record { within = c.output_path-led.ensures.within.within; few = omega (arith, c.output_path-led.ensures.few, (led c.requires.0 c.in-Some.is).few, length_part c.args.base.now c.args.target.front (c.in-Some.lead - c.args.target.front) (omega (arith, led c.requires.0 c.in-Some.is)), length_part c.args.reference.now c.args.target.own (c.args.target.path - c.args.target.own) (omega (arith, c.requires.0.own, c.requires.0.path)), c.requires.0.path, c.well_formed.0.1, c.well_formed.1.0.1) }, c.output_path-led.ensures.within.order)

pub returns-in-Some : goal.returns-in-Some
unfolding part
returns-in-Some c = pathed_merged c.args.base.now c.args.reference.now c.args.target c.in-Some.is c.output_path-led.ensures c.output_path-in-Some.ensures
