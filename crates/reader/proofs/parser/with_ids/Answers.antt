-- `parser::with_ids` meets its contract by cases.
use Rattle.reader.specs.Dispatch.{ids_stop, ids_did}
use Rattle.std.proofs.Common.{Err, arith, ◌≡◌}
use Rattle.reader.proofs.parser.with_ids.Goals as goal

pub returns-in_err-done : goal.returns-in_err-done
returns-in_err-done c =
    let up : c.from_residual.result ≡ Err c.in_err-done.field-0.0 = grind arith in
    rw up (ids_stop _ _ c.in_err-done.was)

pub returns : goal.returns
returns c = ids_did _ _ c.in_ok-done.was
