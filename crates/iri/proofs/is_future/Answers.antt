-- `iri::is_future` meets its contract.
use mathlib.Core.Path.{sym, ◌∙◌}
use Rattle.iri.proofs.Classes.{same_v, other_v}
use native.Mathlib.Omega.{arith}
use Rattle.utils.proofs.Walking.{to_end}
use Rattle.iri.proofs.Checks.{future_none, future_other, future_version}
use Rattle.iri.proofs.is_future.Goals as goal

pub returns-in-empty : goal.returns-in-empty
returns-in-empty c = future_none _ (omega arith)

pub returns-then-eq_ignore_ascii_case : goal.returns-then-eq_ignore_ascii_case
returns-then-eq_ignore_ascii_case c = rw to_end at c.is_version.ensures ∙ future_version _ (omega arith) (same_v _ (sym c.eq_ignore_ascii_case.ensures ∙ c.if-eq_ignore_ascii_case.true))

pub returns-else-eq_ignore_ascii_case : goal.returns-else-eq_ignore_ascii_case
returns-else-eq_ignore_ascii_case c = c.if-eq_ignore_ascii_case.false ∙ future_other _ (omega arith) (other_v _ (sym c.eq_ignore_ascii_case.ensures ∙ c.if-eq_ignore_ascii_case.false))
