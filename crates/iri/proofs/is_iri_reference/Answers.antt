-- `iri::is_iri_reference` meets its contract.
use Rattle.spec.specs.Rfc3987.{is_iri, is_iri_reference}
use Rattle.iri.proofs.Checks.{reference_law, or-first, or-second}
use Rattle.iri.proofs.is_iri_reference.Goals as goal

pub returns-then-is_iri : goal.returns-then-is_iri
unfolding is_iri is_iri_reference
returns-then-is_iri c = or-first _ (reference_law _) c.is_iri.ensures c.if-is_iri.true

pub returns-else-is_iri : goal.returns-else-is_iri
unfolding is_iri is_iri_reference
returns-else-is_iri c = or-second _ (reference_law _) c.is_iri.ensures c.if-is_iri.false c.is_rest.ensures
