-- `reader::begin` meets its contract: refused, nothing is changed; accepted, the base stands at the front of the work store.
use Rattle.spec.specs.Limits.{work_store_bytes, id_store_bytes}
use Rattle.reader.specs.Starting.{text_size, begin_refused, begin_done}
use Rattle.std.proofs.Common.{Err, arith, ◌≡◌}
use Rattle.reader.proofs.begin.Goals as goal

pub returns-in_err-may_start : goal.returns-in_err-may_start
unfolding work_store_bytes id_store_bytes
returns-in_err-may_start c =
    let up : c.from_residual.result ≡ Err c.in_err-may_start.field-0.0 = grind arith in
    rw up (begin_refused _ _ _ _ _ c.may_start.ensures c.in_err-may_start.was)

pub shape_of-work : goal.shape_of-work
shape_of-work c = c.work-1.given

pub returns : goal.returns
unfolding work_store_bytes id_store_bytes
returns c =
    begin_done _ _ _ _ _ c.may_start.ensures c.in_ok-may_start.was (text_size c.args.base)
    c.text_of-text.ensures c.is_some.ensures c.put.ensures c.started.ensures
