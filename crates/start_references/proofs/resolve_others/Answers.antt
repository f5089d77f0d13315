-- `start_references::resolve_others` meets its contract.
use Rattle.start_references.specs.References.{five_at, four_made}
use Rattle.start_references.proofs.resolve_others.Goals as goal

pub returns : goal.returns
unfolding five_at
returns c = four_made c.resolve_in-about.ensures c.resolve_in-resource.ensures c.resolve_in-datatype.ensures c.resolve_in-kind.ensures
