-- `start_tag::packets::rdf_part` meets its contract, by the mode.
use Rattle.start_tag.specs.Packets.{rdf_ordinary, rdf-awaits}
use Rattle.start_tag.proofs.packets.rdf_part.Goals as goal

pub returns-then-mode : goal.returns-then-mode
returns-then-mode c = rdf-awaits c.if-mode.true

pub returns-else-mode : goal.returns-else-mode
returns-else-mode c = rdf_ordinary c.if-mode.false
