-- `iri::is_scheme` meets its contract.
use mathlib.Core.Path.{sym, ap, ◌∙◌}
use native.Mathlib.Omega.{arith}
use Rattle.utils.proofs.Walking.{to_end}
use Rattle.iri.specs.Parts.{is_alpha}
use Rattle.iri.proofs.Checks.{scheme_none, scheme-other, scheme-row}
use Rattle.iri.proofs.is_scheme.Goals as goal

pub returns-in-empty : goal.returns-in-empty
returns-in-empty c = scheme_none _ (omega arith)

pub returns-then-is_alpha : goal.returns-then-is_alpha
returns-then-is_alpha c = rw to_end at c.is_row.ensures ∙ scheme-row _ (omega arith) (ap is_alpha (sym c.as_char.ensures) ∙ sym c.is_alpha.ensures ∙ c.if-is_alpha.true)

pub returns-else-is_alpha : goal.returns-else-is_alpha
returns-else-is_alpha c = c.if-is_alpha.false ∙ scheme-other _ (omega arith) (ap is_alpha (sym c.as_char.ensures) ∙ sym c.is_alpha.ensures ∙ c.if-is_alpha.false)
