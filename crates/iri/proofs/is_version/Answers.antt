-- `iri::is_version` meets its contract. The text is cut at its first ".".
use Rattle.iri.proofs.Checks.{version_none, version_law, and-first, and-second}
use Rattle.iri.proofs.is_version.Goals as goal

pub returns-then-is_filled : goal.returns-then-is_filled
returns-then-is_filled c = and-second _ (version_law _ c.in-Some.ensures) c.is_filled.ensures c.if-is_filled.true c.is_filled-then-is_filled.ensures

pub returns-else-is_filled : goal.returns-else-is_filled
returns-else-is_filled c = and-first _ (version_law _ c.in-Some.ensures) c.is_filled.ensures c.if-is_filled.false

pub returns-in-None : goal.returns-in-None
returns-in-None c = version_none _ c.in-None.ensures
