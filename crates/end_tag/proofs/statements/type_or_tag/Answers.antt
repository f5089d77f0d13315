-- `end_tag::statements::type_or_tag` meets its contract. By the mark of a datatype.
use mathlib.Core.Path.{refl}
use Rattle.end_tag.specs.Object.{lent_unmarked, lent-marked}
use Rattle.end_tag.proofs.statements.type_or_tag.Goals as goal

pub returns-then-has-eq0 : goal.returns-then-has-eq0
returns-then-has-eq0 c = lent_unmarked _ _ c.if-has-eq0.true refl

pub returns : goal.returns
returns c = lent-marked _ _ c.if-has-eq0.false c.part_of.ensures
