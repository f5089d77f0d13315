-- `start_attributes::names_short` meets its contract.
use mathlib.Core.Path.{◌∙◌}
use Rattle.copy.specs.Scan.{passed-begins}
use Rattle.start_attributes.specs.Short.{short_test}
use Rattle.start_attributes.specs.Places.{place_stops, place_passes, places_pass}
use native.Mathlib.Omega.{arith}
use Rattle.start_attributes.proofs.names_short.Goals as goal

pub loop-j-init : goal.loop-j-init
loop-j-init c = passed-begins

pub returns-then-not-is_short : goal.returns-then-not-is_short
returns-then-not-is_short c = place_stops c.loop-j.invariant (omega arith) (short_test _ _ _ _ _ c.load-class.ensures c.is_short.ensures ∙ c.if-not-is_short.true)

pub loop-j-preserved : goal.loop-j-preserved
loop-j-preserved c = place_passes c.loop-j.invariant (omega arith) (short_test _ _ _ _ _ c.load-class.ensures c.is_short.ensures ∙ c.if-not-is_short.false)

pub returns : goal.returns
returns c = places_pass c.loop-j.invariant (omega arith)
