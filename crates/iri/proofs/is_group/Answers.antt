-- `iri::is_group` meets its contract.
use mathlib.Core.Path.{sym, ◌∙◌}
use native.Mathlib.Omega.{arith}
use Rattle.iri.proofs.Octets.{group_none, group_long}
use Rattle.iri.proofs.Checks.{group_row}
use Rattle.iri.proofs.is_group.Goals as goal

pub returns-in-1-to-4 : goal.returns-in-1-to-4
returns-in-1-to-4 c = c.is_row.ensures ∙ group_row _ (omega arith) (omega arith)

pub returns-in_default : goal.returns-in_default
returns-in_default c = sym (group_none _ (omega arith))

pub returns-in_default-2 : goal.returns-in_default-2
returns-in_default-2 c = sym (group_long _ (omega arith))
