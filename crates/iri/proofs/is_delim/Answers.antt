-- `iri::is_delim` meets its contract.
use Rattle.iri.specs.Parts.{allowed}
use Rattle.iri.specs.Parts as P
use Rattle.iri.proofs.is_delim.Goals as goal

pub returns : goal.returns
unfolding allowed P.all
returns c = c.is_among.ensures
