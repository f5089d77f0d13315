-- `convert::end_or_read` meets its contract: the end of the document, or what a read leads to.
use Rattle.convert.specs.Places.{more}
use Rattle.convert.specs.Turning.{follow_over}
use Rattle.convert.proofs.end_or_read.Goals as goal

pub returns-then-place : goal.returns-then-place
returns-then-place g c = follow_over c.if-place.true c.finish.ensures c.over.ensures

pub shape_of-input : goal.shape_of-input
shape_of-input g c = c.read.ensures.room

pub returns : goal.returns
returns g c = more c.if-place.false c.read.ensures
