-- `iri::is_optional` meets its contract.
use mathlib.Core.Path.{◌∙◌}
use borrow.Author.Tests.{ne_eqb}
use native.Mathlib.Omega.{arith}
use Rattle.utils.proofs.Walking.{to_end}
use Rattle.iri.proofs.Checks.{optional_none, optional-other, optional-row}
use Rattle.iri.proofs.is_optional.Goals as goal

pub returns-in-empty : goal.returns-in-empty
returns-in-empty c = optional_none _ c.requires _ _ (omega arith)

pub returns-then-first-mark : goal.returns-then-first-mark
returns-then-first-mark c = rw to_end at c.is_row.ensures ∙ optional-row _ c.requires _ _ (omega arith) c.if-first-mark.true

pub returns-else-first-mark : goal.returns-else-first-mark
returns-else-first-mark c = ne_eqb _ _ c.if-first-mark.false ∙ optional-other _ c.requires _ _ (omega arith) c.if-first-mark.false
