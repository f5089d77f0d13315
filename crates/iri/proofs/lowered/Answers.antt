-- `iri::lowered` meets its contract.
use mathlib.Core.Path.{sym, ◌∙◌}
use native.Mathlib.Omega.{arith}
use Rattle.spec.specs.Bytes.{byte, when◌then◌else◌}
use Rattle.spec.specs.Abnf.{lower}
use Rattle.iri.proofs.Classes.{within_high}
use Rattle.iri.proofs.lowered.Goals as goal

pub overflow_add-result : goal.overflow_add-result
overflow_add-result c = record { fits = omega (arith, within_high 65 90 _ (sym c.is_within.ensures ∙ c.if-is_within.true)) }

pub returns-then-is_within : goal.returns-then-is_within
unfolding lower byte when◌then◌else◌
returns-then-is_within c = rw (sym c.is_within.ensures ∙ c.if-is_within.true)

pub returns-else-is_within : goal.returns-else-is_within
unfolding lower byte when◌then◌else◌
returns-else-is_within c = rw (sym c.is_within.ensures ∙ c.if-is_within.false)
