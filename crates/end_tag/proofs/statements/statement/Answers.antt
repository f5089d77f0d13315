-- `end_tag::statements::statement` meets its contract. The statement of `ntriples`, with the parts of the frames.
use Rattle.writer.specs.Put.{put_as}
use Rattle.ntriples.specs.Terms.{lent_property}
use Rattle.end_tag.specs.Object.{stated}
use Rattle.end_tag.proofs.statements.statement.Goals as goal

pub returns : goal.returns
returns c = put_as (rw (lent_property _ _ _ _ c.then_some-id.ensures) at c.statement.ensures) (stated _ _ _ _ _ _ c.of-node.ensures c.part_of-s.ensures c.part_of-iri.ensures c.part_of-own.ensures)
