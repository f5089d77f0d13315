-- `label::is_generated` meets its contract, test by test.
use mathlib.Core.Path.{sym, ◌∙◌}
use Rattle.spec.specs.Bytes.{ascii}
use Rattle.copy.specs.Copy.{rest_of}
use Rattle.label.specs.Label.{begins_otherwise, longer_or_shorter, digits_decide}
use Rattle.label.proofs.is_generated.Goals as goal

pub returns-then-not-begins : goal.returns-then-not-begins
unfolding ascii
returns-then-not-begins c = begins_otherwise _ (sym c.begins.ensures ∙ c.if-not-begins.true)

pub returns-then-s-ne12 : goal.returns-then-s-ne12
unfolding ascii
returns-then-s-ne12 c = longer_or_shorter _ (sym c.begins.ensures ∙ c.if-not-begins.false) c.if-s-ne12.true

pub returns : goal.returns
unfolding ascii
returns c = rw rest_of at c.are_digits.ensures ∙ digits_decide _ (sym c.begins.ensures ∙ c.if-not-begins.false) c.if-s-ne12.false
