-- `state::node_below` meets its contract. A law of specs/ for each return, with the tests that led there.
use Rattle.state.specs.Tests.{no_node, node_kind, node-around}
use mathlib.Core.Path.{◌∙◌}
use native.Mathlib.Omega.{arith}
use Rattle.state.proofs.node_below.Goals as goal

pub returns-then-n-eq0 : goal.returns-then-n-eq0
returns-then-n-eq0 c = no_node _ _ c.if-n-eq0.true

pub returns : goal.returns
returns c = c.eq.ensures ∙ node_kind _ ∙ node-around _ _ c.if-n-eq0.false (omega arith) c.load-f.ensures
