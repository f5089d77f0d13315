-- `replay::end` meets its contract: the way stops as finish reports.
use Rattle.test_reader.proofs.replay.end.Goals as goal

pub returns : goal.returns
returns c = record { report = c.finish-report.result; finishes = c.finish-report.ensures; is = rw (← c.number.ensures) c.stop.ensures }
