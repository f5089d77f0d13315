-- `iri::is_filled` meets its contract.
use mathlib.Core.Path.{sym, ap, ◌∙◌}
use mathlib.Core.Bool.{not}
use borrow.Author.Tests.{eqb-true, eqb-false}
use native.Mathlib.Omega.{arith}
use Rattle.iri.proofs.Checks.{filled_none, filled_some}
use Rattle.iri.proofs.is_filled.Goals as goal

pub returns-then-not-is_empty : goal.returns-then-not-is_empty
returns-then-not-is_empty c = c.is_row.ensures ∙ filled_some _ _ (omega (arith, eqb-false _ _ (sym c.if-not-is_empty.ensures)))

pub returns-else-not-is_empty : goal.returns-else-not-is_empty
returns-else-not-is_empty c = ap not c.if-not-is_empty.false ∙ filled_none _ _ (eqb-true _ _ (sym c.if-not-is_empty.ensures))
