-- `start_rules::judge_property` meets its contract: the refusals in their order.
use Rattle.start_rules.specs.Judged.{property_reserved, property-two, property-counted, property-spent, property_good}
use mathlib.Core.Path.{sym, ◌∙◌}
use Rattle.start_rules.proofs.judge_property.Goals as goal

pub returns-then-reserved : goal.returns-then-reserved
returns-then-reserved c = property_reserved c.if-reserved.true

pub returns-then-two_objects : goal.returns-then-two_objects
returns-then-two_objects c = property-two c.if-reserved.false (sym c.two_objects.ensures ∙ c.if-two_objects.true)

pub returns-then-spent : goal.returns-then-spent
returns-then-spent c = property-counted c.if-reserved.false (sym c.two_objects.ensures ∙ c.if-two_objects.false) (sym c.spent.ensures ∙ c.if-spent.true)

pub returns-then-spent-2 : goal.returns-then-spent-2
returns-then-spent-2 c = property-spent c.if-reserved.false (sym c.two_objects.ensures ∙ c.if-two_objects.false) (sym c.spent.ensures ∙ c.if-spent.false) (rw c.takes_label.ensures at (sym c.spent-2.ensures) ∙ c.if-spent-2.true)

pub returns : goal.returns
returns c = property_good c.if-reserved.false (sym c.two_objects.ensures ∙ c.if-two_objects.false) (sym c.spent.ensures ∙ c.if-spent.false) (rw c.takes_label.ensures at (sym c.spent-2.ensures) ∙ c.if-spent-2.false)
