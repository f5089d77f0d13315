-- `end_tag::end_silent` meets its contract. Held bytes decide.
use Rattle.end_tag.specs.Ends.{tells_over, tells_nothing}
use Rattle.end_tag.specs.Kinds.{silent_tells}
use Rattle.std.proofs.Common.{sym}
use Rattle.std.proofs.Common.{◌∙◌}
use Rattle.end_tag.proofs.end_silent.Goals as goal

pub returns-then-not-holds_no_more : goal.returns-then-not-holds_no_more
returns-then-not-holds_no_more c = λ q w out s. tells_over (silent_tells c.pop.ensures c.unwrap_or-behind.ensures s) (sym c.holds_no_more.ensures ∙ c.if-not-holds_no_more.true)

pub returns : goal.returns
returns c = λ q w out s. tells_nothing (silent_tells c.pop.ensures c.unwrap_or-behind.ensures s) (sym c.holds_no_more.ensures ∙ c.if-not-holds_no_more.false)
