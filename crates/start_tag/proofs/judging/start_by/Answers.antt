-- `judging::start_by` meets its contract.
use Rattle.start_tag.proofs.judging.start_by.Goals as goal

pub returns : goal.returns
returns c = rw (c.made-id.ensures, c.made-kind.ensures, c.made-iri.ensures)
