-- `end_tag::statements::property_fits` meets its contract. Its object is a node or a text, with a datatype or a tag beside it.
use mathlib.Core.Bool.{false≢true}
use Rattle.end_tag.specs.Room.{property-fits}
use native.Mathlib.Omega.{arith}
use Rattle.end_tag.proofs.statements.property_fits.Goals as goal

pub returns-then-tag-gt-MOST_TAG : goal.returns-then-tag-gt-MOST_TAG
returns-then-tag-gt-MOST_TAG c = λ y. absurd (false≢true y)

pub overflow_add-text : goal.overflow_add-text
overflow_add-text c = omega (arith, c.object_room-text.ensures.1)

pub overflow_add-text-2 : goal.overflow_add-text-2
overflow_add-text-2 c = omega (arith, c.object_room-text.ensures.1)

pub statement_fits-requires : goal.statement_fits-requires
statement_fits-requires c = omega (arith, c.object_room-text.ensures.1)

pub returns : goal.returns
returns c = λ y. property-fits c.args.tag.now (rw (c.object_room-text.ensures.0, c.part_size.ensures.0, c.part_size-2.ensures.0) at (c.statement_fits.ensures y))
