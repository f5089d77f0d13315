-- `start_plan::object_of` meets its contract: a law for each return.
use Rattle.start_plan.specs.Plan.{as_resource_lem, as_node, as_label, as_nothing}
use mathlib.Core.Path.{sym, ◌∙◌}
use Rattle.start_plan.proofs.object_of.Goals as goal

pub returns-then-is_there : goal.returns-then-is_there
returns-then-is_there c = as_resource_lem _ _ (sym c.is_there.ensures ∙ c.if-is_there.true)

pub returns-then-is_there-2 : goal.returns-then-is_there-2
returns-then-is_there-2 c = as_node _ (sym c.is_there.ensures ∙ c.if-is_there.false) _ (sym c.is_there-2.ensures ∙ c.if-is_there-2.true)

pub returns-then-attributes : goal.returns-then-attributes
returns-then-attributes c = as_label _ (sym c.is_there.ensures ∙ c.if-is_there.false) (sym c.is_there-2.ensures ∙ c.if-is_there-2.false) c.if-attributes.true c.made_label.ensures

pub returns : goal.returns
returns c = as_nothing _ (sym c.is_there.ensures ∙ c.if-is_there.false) (sym c.is_there-2.ensures ∙ c.if-is_there-2.false) c.if-attributes.false
