-- `reader::may_start` meets its contract: the tests in the definition's order.
use mathlib.Core.Path.{refl, sym, ◌∙◌}
use Rattle.reader.specs.Starting.{no_lengths, no_base, no_iri, base-long, base_good}
use Rattle.reader.proofs.may_start.Goals as goal

pub returns-then-not-lengths : goal.returns-then-not-lengths
returns-then-not-lengths c = no_lengths c.if-not-lengths.true

pub returns-in-None : goal.returns-in-None
returns-in-None c = rw c.in-None.is (no_base c.if-not-lengths.false refl)

pub returns-then-not-is_iri : goal.returns-then-not-is_iri
returns-then-not-is_iri c = rw c.in-Some.is (no_iri c.if-not-lengths.false refl (sym c.is_iri.ensures ∙ c.if-not-is_iri.true))

pub returns-then-base-gt-MOST_BYTES : goal.returns-then-base-gt-MOST_BYTES
returns-then-base-gt-MOST_BYTES c = rw c.in-Some.is (base-long c.if-not-lengths.false refl (sym c.is_iri.ensures ∙ c.if-not-is_iri.false) c.if-base-gt-MOST_BYTES.true)

pub returns-else-base-gt-MOST_BYTES : goal.returns-else-base-gt-MOST_BYTES
returns-else-base-gt-MOST_BYTES c = rw c.in-Some.is (base_good c.if-not-lengths.false refl (sym c.is_iri.ensures ∙ c.if-not-is_iri.false) c.if-base-gt-MOST_BYTES.false)
