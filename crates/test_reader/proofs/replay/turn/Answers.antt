-- `replay::turn` meets its contract, by the answer of its step: an event is done, or refused, or none is left.
use Rattle.test_reader.specs.Ways.{turn_done, turn-refused, turn_over}
use Rattle.test_reader.proofs.replay.turn.Goals as goal

pub shape_of-work-then-number-eq0 : goal.shape_of-work-then-number-eq0
shape_of-work-then-number-eq0 c = c.work-1.given

pub shape_of-ids-then-number-eq0 : goal.shape_of-ids-then-number-eq0
shape_of-ids-then-number-eq0 c = c.ids-1.given

pub shape_of-out-then-number-eq0 : goal.shape_of-out-then-number-eq0
shape_of-out-then-number-eq0 c = c.out-1.given

pub returns-then-number-eq0 : goal.returns-then-number-eq0
returns-then-number-eq0 c = turn_done _ _ c.part-left.ensures c.step-report.ensures c.number-number.ensures c.if-number-eq0.true c.advance.ensures

pub shape_of-work-then-number-gt1 : goal.shape_of-work-then-number-gt1
shape_of-work-then-number-gt1 c = c.work-1.given

pub shape_of-ids-then-number-gt1 : goal.shape_of-ids-then-number-gt1
shape_of-ids-then-number-gt1 c = c.ids-1.given

pub shape_of-out-then-number-gt1 : goal.shape_of-out-then-number-gt1
shape_of-out-then-number-gt1 c = c.out-1.given

pub returns-then-number-gt1 : goal.returns-then-number-gt1
returns-then-number-gt1 c = turn-refused _ _ c.part-left.ensures c.step-report.ensures c.number-number.ensures c.if-number-gt1.true c.stop.ensures

pub shape_of-work : goal.shape_of-work
shape_of-work c = c.work-1.given

pub shape_of-ids : goal.shape_of-ids
shape_of-ids c = c.ids-1.given

pub shape_of-out : goal.shape_of-out
shape_of-out c = c.out-1.given

pub returns : goal.returns
returns c = turn_over _ _ c.part-left.ensures c.step-report.ensures c.number-number.ensures c.if-number-eq0.false c.if-number-gt1.false c.end.ensures
