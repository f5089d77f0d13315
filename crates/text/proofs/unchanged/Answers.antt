-- `text::unchanged` meets its contract: held bytes decide.
use borrow.Author.Tests.{leb-true, leb-false}
use Rattle.spec.specs.Limits as L
use Rattle.text.specs.Blank.{unchanged_over, unchanged_done}
use Rattle.std.proofs.Common.{sym}
use Rattle.std.proofs.Common.{◌∙◌}
use Rattle.text.proofs.unchanged.Goals as goal

pub returns-then-not-holds_no_more : goal.returns-then-not-holds_no_more
unfolding L.all
returns-then-not-holds_no_more c = unchanged_over _ (leb-false _ 49152 (sym c.holds_no_more.ensures ∙ c.if-not-holds_no_more.true))

pub returns : goal.returns
unfolding L.all
returns c = unchanged_done _ (leb-true _ 49152 (sym c.holds_no_more.ensures ∙ c.if-not-holds_no_more.false))
