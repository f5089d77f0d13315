-- `judging::iri_text` meets its contract.
use Rattle.start_tag.specs.Names.{text-made}
use Rattle.start_tag.proofs.judging.iri_text.Goals as goal

pub returns-in-Made : goal.returns-in-Made
returns-in-Made c = text-made _ c.in-Made.is c.piece.ensures
