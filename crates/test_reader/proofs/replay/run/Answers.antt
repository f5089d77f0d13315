-- `replay::run` meets its contract: start is refused, or the document goes on from it.
use mathlib.Core.Path.{◌∙◌, refl}
use Rattle.test_reader.specs.Ways.{run-refused, run_done}
use Rattle.test_reader.proofs.replay.run.Goals as goal

pub shape_of-work-then-number-gt0 : goal.shape_of-work-then-number-gt0
shape_of-work-then-number-gt0 c = c.work-1.given

pub shape_of-ids-then-number-gt0 : goal.shape_of-ids-then-number-gt0
shape_of-ids-then-number-gt0 c = refl

pub returns-then-number-gt0 : goal.returns-then-number-gt0
returns-then-number-gt0 c = run-refused c.start-report.ensures c.number-number.ensures c.if-number-gt0.true

pub shape_of-work : goal.shape_of-work
shape_of-work c = c.work-2-1.given ∙ c.work-1.given

pub shape_of-ids : goal.shape_of-ids
shape_of-ids c = c.ids-1.given

pub shape_of-out : goal.shape_of-out
shape_of-out c = c.out-1.given

pub returns : goal.returns
returns c = run_done c.start-report.ensures c.number-number.ensures c.if-number-gt0.false c.go_on.ensures
