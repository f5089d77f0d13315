-- `start_tag::wrapper::judge_wrapper` meets its contract: a law of each return.
use mathlib.Core.Path.{sym, ◌∙◌}
use borrow.Author.Tests.{not-true, not-false}
use Rattle.start_tag.specs.Wrapper.{unknown_prefix, long-name, wrapper_full, wrapper_judged}
use Rattle.start_tag.proofs.wrapper.judge_wrapper.Goals as goal

pub returns-then-has_unknown : goal.returns-then-has_unknown
returns-then-has_unknown c = unknown_prefix (not-true _ (sym c.has_unknown.ensures ∙ c.if-has_unknown.true))

pub returns-then-not-names_short : goal.returns-then-not-names_short
returns-then-not-names_short c = long-name (not-false _ (sym c.has_unknown.ensures ∙ c.if-has_unknown.false)) (sym c.names_short.ensures ∙ c.if-not-names_short.true)

pub returns-then-not-fits : goal.returns-then-not-fits
returns-then-not-fits c = wrapper_full (not-false _ (sym c.has_unknown.ensures ∙ c.if-has_unknown.false)) (sym c.names_short.ensures ∙ c.if-not-names_short.false) c.fits.ensures c.if-not-fits.true

pub returns : goal.returns
returns c = wrapper_judged (not-false _ (sym c.has_unknown.ensures ∙ c.if-has_unknown.false)) (sym c.names_short.ensures ∙ c.if-not-names_short.false) c.fits.ensures c.if-not-fits.false (rw c.wrapper-plan.ensures)
