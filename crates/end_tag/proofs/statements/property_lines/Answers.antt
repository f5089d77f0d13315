-- `end_tag::statements::property_lines` meets its contract. The statement, with the object that the marks and parts say.
use Rattle.writer.specs.Put.{put_as}
use Rattle.end_tag.specs.Object.{said}
use Rattle.end_tag.proofs.statements.property_lines.Goals as goal

pub shape_of-out : goal.shape_of-out
shape_of-out c = c.out-1.given

pub returns : goal.returns
returns c = let a = c.args in put_as c.statement.ensures (said a.f a.work.now a.tag.now _ c.object_term-term.ensures c.object_text-text.ensures c.type_or_tag-extra.ensures)
