-- `start_plan::default` meets its contract: a law for each return.
use mathlib.Core.Path.{sym, ◌∙◌}
use Rattle.start_plan.specs.Plan.{default_none, default_some}
use Rattle.start_plan.proofs.default.Goals as goal

pub returns-then-is_absent : goal.returns-then-is_absent
returns-then-is_absent c = default_none _ _ _ _ c.object_of-named.ensures (sym c.is_absent.ensures ∙ c.if-is_absent.true)

pub returns-else-is_absent : goal.returns-else-is_absent
returns-else-is_absent c = default_some _ _ _ _ c.object_of-named.ensures (sym c.is_absent.ensures ∙ c.if-is_absent.false)
