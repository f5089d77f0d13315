-- `end_tag::statements::object_text` meets its contract. By the mark of the tail.
use Rattle.end_tag.specs.Object.{lent_none, lent-marked}
use Rattle.end_tag.proofs.statements.object_text.Goals as goal

pub returns-then-has-eq0 : goal.returns-then-has-eq0
returns-then-has-eq0 c = lent_none _ _ _ c.if-has-eq0.true c.piece.ensures

pub returns : goal.returns
returns c = lent-marked _ _ c.if-has-eq0.false c.part_of.ensures
