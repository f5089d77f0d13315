-- `end_tag::statements::literal_fits` meets its contract. Its object is a text with a datatype.
use Rattle.end_tag.specs.Room.{literal-fits}
use Rattle.end_tag.proofs.statements.literal_fits.Goals as goal

pub returns : goal.returns
returns c = λ y. literal-fits (rw c.part_size.ensures.0 at (c.statement_fits.ensures y))
