-- `iri::is_iri` meets its contract. The text is cut at its first ":".
use Rattle.spec.specs.Rfc3987.{is_iri}
use Rattle.iri.proofs.Checks.{iri_none, iri_law, and-first, and-second}
use Rattle.iri.proofs.is_iri.Goals as goal

pub returns-then-is_scheme : goal.returns-then-is_scheme
unfolding is_iri
returns-then-is_scheme c = and-second _ (iri_law _ c.in-Some.ensures) c.is_scheme.ensures c.if-is_scheme.true c.is_rest.ensures

pub returns-else-is_scheme : goal.returns-else-is_scheme
unfolding is_iri
returns-else-is_scheme c = and-first _ (iri_law _ c.in-Some.ensures) c.is_scheme.ensures c.if-is_scheme.false

pub returns-in-None : goal.returns-in-None
unfolding is_iri
returns-in-None c = iri_none _ c.in-None.ensures
