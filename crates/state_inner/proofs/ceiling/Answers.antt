-- `state_inner::ceiling` meets its contract. A law of specs/ for each return, with the tests that led there.
use Rattle.state_inner.specs.Calls.{ceiling_none, ceiling_there}
use mathlib.Core.Path.{◌∙◌}
use Rattle.state_inner.proofs.ceiling.Goals as goal

pub returns-then-i-eq0 : goal.returns-then-i-eq0
returns-then-i-eq0 c = ceiling_none _ _ c.if-i-eq0.true

pub returns : goal.returns
returns c = c.wide.ensures.0 ∙ ceiling_there _ _ c.if-i-eq0.false c.load-row.ensures
