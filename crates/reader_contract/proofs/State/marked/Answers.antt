-- `State::marked` meets its contract by cases.
use mathlib.Core.Path.{sym, ◌∙◌}
use Rattle.reader_contract.specs.Meaning.{mark_set, mark_not}
use Rattle.reader_contract.proofs.State.marked.Goals as goal

pub returns-then-closes : goal.returns-then-closes
returns-then-closes c = mark_set _ _ (sym c.closes.ensures ∙ c.if-closes.true) c.closed.ensures

pub returns-else-closes : goal.returns-else-closes
returns-else-closes c = mark_not _ _ (sym c.closes.ensures ∙ c.if-closes.false)
