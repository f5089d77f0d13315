-- `state::ceiling` meets its contract. A law of specs/ for each return, with the tests that led there.
use Rattle.state.specs.Tests.{ceiling_first, ceiling-other}
use mathlib.Core.Path.{◌∙◌}
use native.Mathlib.Omega.{arith}
use Rattle.state.proofs.ceiling.Goals as goal

pub returns-then-i-eq0 : goal.returns-then-i-eq0
returns-then-i-eq0 c = (ceiling_first _ _ c.if-i-eq0.true, omega arith)

pub returns : goal.returns
returns c = (c.wide.ensures.0 ∙ ceiling-other _ _ c.if-i-eq0.false (omega arith) c.load-row.ensures, c.wide.ensures.1)
