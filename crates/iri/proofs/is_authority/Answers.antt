-- `iri::is_authority` meets its contract. The text is cut at its first "@", if there is one.
use mathlib.Core.Path.{◌∙◌}
use Rattle.iri.proofs.Checks.{authority_none, authority_law, and-first, and-second}
use Rattle.iri.proofs.is_authority.Goals as goal

pub returns-then-is_row : goal.returns-then-is_row
returns-then-is_row c = and-second _ (authority_law _ c.in-Some.ensures) c.is_row.ensures c.if-is_row.true c.is_server.ensures

pub returns-else-is_row : goal.returns-else-is_row
returns-else-is_row c = and-first _ (authority_law _ c.in-Some.ensures) c.is_row.ensures c.if-is_row.false

pub returns-in-None : goal.returns-in-None
returns-in-None c = c.is_server-in-None.ensures ∙ authority_none _ c.in-None.ensures
