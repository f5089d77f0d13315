-- `state_stack::top` meets its contract. A law of specs/ for each return, with the tests that led there.
use Rattle.state_stack.specs.Calls.{top_none, top_there}
use mathlib.Core.Path.{◌∙◌}
use Rattle.state_stack.proofs.top.Goals as goal

pub returns-then-r-eq0 : goal.returns-then-r-eq0
returns-then-r-eq0 c = c.none.ensures ∙ top_none _ _ c.if-r-eq0.true

pub returns : goal.returns
returns c = c.load.ensures ∙ top_there _ _ c.if-r-eq0.false
