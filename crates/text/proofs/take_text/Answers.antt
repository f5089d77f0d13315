-- `text::take_text` meets its contract: blank text changes nothing; 7; or the text is set.
use mathlib.Core.Path.{sym, ◌∙◌}
use borrow.Author.Tests.{leb-true, leb-false}
use Rattle.spec.specs.Limits as L
use Rattle.text.specs.Object.{text_blank, text_over, text_done}
use Rattle.text.proofs.take_text.Goals as goal

pub returns-then-is_blank : goal.returns-then-is_blank
returns-then-is_blank c = text_blank (sym c.is_blank.ensures ∙ c.if-is_blank.true) c.unchanged.ensures

pub returns-then-not-text_fits : goal.returns-then-not-text_fits
unfolding L.all
returns-then-not-text_fits c = text_over (sym c.is_blank.ensures ∙ c.if-is_blank.false) (leb-false _ 49152 (sym c.text_fits.ensures ∙ c.if-not-text_fits.true))

pub returns : goal.returns
unfolding L.all
returns c = rw c.unwrap_or-behind.ensures (text_done (sym c.is_blank.ensures ∙ c.if-is_blank.false) (leb-true _ 49152 (sym c.text_fits.ensures ∙ c.if-not-text_fits.false)) c.set_text.ensures)
