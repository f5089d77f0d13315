-- `start_commit::enter` meets its contract. The same table, or one more in it.
use Rattle.start_commit.specs.Entered.{enters_none, enters_one}
use mathlib.Core.Path.{sym, ◌∙◌}
use Rattle.start_commit.proofs.enter.Goals as goal

pub returns-then-not-is_there : goal.returns-then-not-is_there
returns-then-not-is_there c = enters_none _ _ _ c.requires.0 (sym c.is_there.ensures ∙ c.if-not-is_there.true)

pub shape_of-ids : goal.shape_of-ids
shape_of-ids c = c.ids-1.given

pub returns : goal.returns
returns c = enters_one _ (record { count = c.args.count; used = c.args.used }) _ _ c.requires.0 (sym c.is_there.ensures ∙ c.if-not-is_there.false) (c.requires.1 (sym c.is_there.ensures ∙ c.if-not-is_there.false)) c.text-text.ensures c.add.ensures c.unwrap_or.ensures
