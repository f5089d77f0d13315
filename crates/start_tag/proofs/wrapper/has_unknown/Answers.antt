-- `start_tag::wrapper::has_unknown` meets its contract.
use mathlib.Core.Path.{ap}
use mathlib.Core.Bool.{not}
use Rattle.copy.specs.Scan.{passed-begins}
use Rattle.start_attributes.specs.Places.{place_stops, place_passes, places_pass}
use Rattle.start_tag.specs.Wrapper.{unknown_here, known_here}
use native.Mathlib.Omega.{arith}
use Rattle.start_tag.proofs.wrapper.has_unknown.Goals as goal

pub loop-j-init : goal.loop-j-init
loop-j-init c = passed-begins

pub returns-in-Unknown : goal.returns-in-Unknown
returns-in-Unknown c = ap not (place_stops c.loop-j.invariant (omega arith) (unknown_here _ _ c.load.ensures c.in-Unknown.is))

pub loop-j-preserved : goal.loop-j-preserved
loop-j-preserved c = place_passes c.loop-j.invariant (omega arith) (known_here _ _ c.load.ensures c.in_default.not-Unknown)

pub returns : goal.returns
returns c = ap not (places_pass c.loop-j.invariant (omega arith))
