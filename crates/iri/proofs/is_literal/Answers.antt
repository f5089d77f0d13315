-- `iri::is_literal` meets its contract.
use Rattle.iri.proofs.Checks.{literal_law, or-first, or-second}
use Rattle.iri.proofs.is_literal.Goals as goal

pub returns-then-is_ipv6 : goal.returns-then-is_ipv6
returns-then-is_ipv6 c = or-first _ (literal_law _) c.is_ipv6.ensures c.if-is_ipv6.true

pub returns-else-is_ipv6 : goal.returns-else-is_ipv6
returns-else-is_ipv6 c = or-second _ (literal_law _) c.is_ipv6.ensures c.if-is_ipv6.false c.is_future.ensures
