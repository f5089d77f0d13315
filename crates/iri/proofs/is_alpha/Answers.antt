-- `iri::is_alpha` meets its contract.
use Rattle.iri.specs.Parts as P
use Rattle.iri.proofs.is_alpha.Goals as goal

pub returns : goal.returns
unfolding P.all
returns c = cc
