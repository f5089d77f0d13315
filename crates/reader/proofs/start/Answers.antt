-- `reader::start` meets its contract: refused, nothing is changed; accepted, the base stands at the front of the work store, and all else is fresh.
use Rattle.reader.specs.Starting.{text_size, start_refused, start_done}
use Rattle.reader.proofs.start.Goals as goal

pub shape_of-work-in-Err : goal.shape_of-work-in-Err
shape_of-work-in-Err c = c.work-1.given

pub returns-in-Err : goal.returns-in-Err
returns-in-Err c = start_refused _ _ _ _ _ _ c.begin-begun.ensures c.in-Err.is c.refused.ensures

pub shape_of-work-in-Ok : goal.shape_of-work-in-Ok
shape_of-work-in-Ok c = c.work-1.given

pub returns-in-Ok : goal.returns-in-Ok
returns-in-Ok c =
    start_done _ _ _ _ _ _ c.begin-begun.ensures c.in-Ok.is (text_size c.args.base)
    c.text_of.ensures c.is_some.ensures c.fresh.ensures c.done.ensures
