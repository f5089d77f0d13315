-- `iri::is_network` meets its contract. The path is split off.
use Rattle.iri.proofs.Finding.{found_within}
use Rattle.iri.proofs.Checks.{network_law, and-first, and-second}
use Rattle.iri.proofs.is_network.Goals as goal

pub split_at-requires : goal.split_at-requires
split_at-requires c = found_within _ _ c.find.ensures

pub returns-then-is_authority : goal.returns-then-is_authority
returns-then-is_authority c = and-second _ (network_law _ c.find.ensures c.split_at.ensures.front c.split_at.ensures.back) c.is_authority.ensures c.if-is_authority.true c.is_row.ensures

pub returns-else-is_authority : goal.returns-else-is_authority
returns-else-is_authority c = and-first _ (network_law _ c.find.ensures c.split_at.ensures.front c.split_at.ensures.back) c.is_authority.ensures c.if-is_authority.false
