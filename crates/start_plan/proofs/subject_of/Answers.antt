-- `start_plan::subject_of` meets its contract: a law for each return.
use Rattle.start_plan.specs.Plan.{by_id, by_about, by_node, by_label}
use mathlib.Core.Path.{sym, ◌∙◌}
use Rattle.start_plan.proofs.subject_of.Goals as goal

pub returns-then-is_there : goal.returns-then-is_there
returns-then-is_there c = by_id _ (sym c.is_there.ensures ∙ c.if-is_there.true)

pub returns-then-is_there-2 : goal.returns-then-is_there-2
returns-then-is_there-2 c = by_about _ (sym c.is_there.ensures ∙ c.if-is_there.false) (sym c.is_there-2.ensures ∙ c.if-is_there-2.true)

pub returns-then-is_there-3 : goal.returns-then-is_there-3
returns-then-is_there-3 c = by_node _ (sym c.is_there.ensures ∙ c.if-is_there.false) (sym c.is_there-2.ensures ∙ c.if-is_there-2.false) (sym c.is_there-3.ensures ∙ c.if-is_there-3.true)

pub returns : goal.returns
returns c = by_label _ (sym c.is_there.ensures ∙ c.if-is_there.false) (sym c.is_there-2.ensures ∙ c.if-is_there-2.false) (sym c.is_there-3.ensures ∙ c.if-is_there-3.false) c.made_label.ensures
