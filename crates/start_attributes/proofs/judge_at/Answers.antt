-- `start_attributes::judge_at` meets its contract: 8, then by the role.
use mathlib.Core.Path.{sym, ◌∙◌}
use Rattle.start_attributes.specs.Attributes.{not_known, is_known_lem}
use Rattle.start_attributes.proofs.judge_at.Goals as goal

pub returns-then-not-is_known : goal.returns-then-not-is_known
returns-then-not-is_known c = not_known _ _ _ _ (rw c.name_of.ensures at (sym c.is_known.ensures ∙ c.if-not-is_known.true))

pub returns : goal.returns
returns c = rw c.value_of.ensures at c.judge.ensures ∙ is_known_lem _ _ _ _ (rw c.name_of.ensures at (sym c.is_known.ensures ∙ c.if-not-is_known.false))
