-- `start_rules::judge_node` meets its contract: the refusals in their order.
use Rattle.start_rules.specs.Judged.{node_reserved, node-two, node-spent, node_good}
use mathlib.Core.Path.{sym, ◌∙◌}
use Rattle.start_rules.proofs.judge_node.Goals as goal

pub returns-then-reserved : goal.returns-then-reserved
returns-then-reserved c = node_reserved c.if-reserved.true

pub returns-then-two_of : goal.returns-then-two_of
returns-then-two_of c = node-two c.if-reserved.false (sym c.two_of.ensures ∙ c.if-two_of.true)

pub returns-then-spent : goal.returns-then-spent
returns-then-spent c = node-spent c.if-reserved.false (sym c.two_of.ensures ∙ c.if-two_of.false) (sym c.spent.ensures ∙ c.if-spent.true)

pub returns : goal.returns
returns c = node_good c.if-reserved.false (sym c.two_of.ensures ∙ c.if-two_of.false) (sym c.spent.ensures ∙ c.if-spent.false)
