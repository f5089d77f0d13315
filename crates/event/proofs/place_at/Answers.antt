-- `event::place_at` meets its contract: a law for each return.
use Rattle.event.specs.Place.{place_inside, place_outside, place_there}
use native.Mathlib.Omega.{arith}
use Rattle.event.proofs.place_at.Goals as goal

pub returns-then-r-ne0 : goal.returns-then-r-ne0
returns-then-r-ne0 c = place_inside _ _ c.if-r-ne0.true

pub returns-then-r-eq0 : goal.returns-then-r-eq0
returns-then-r-eq0 c = place_outside _ _ (omega arith) c.if-r-eq0.true

pub returns : goal.returns
returns c = place_there _ _ (omega arith) c.if-r-eq0.false c.load-f.ensures c.place_of.ensures
