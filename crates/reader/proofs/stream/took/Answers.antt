-- `stream::took` meets its contract by cases.
use Rattle.reader.specs.Core.{taken_stop, taken_did}
use Rattle.std.proofs.Common.{Err, arith, ◌≡◌}
use Rattle.reader.proofs.stream.took.Goals as goal

pub returns-in_err-behind : goal.returns-in_err-behind
returns-in_err-behind c =
    let up : c.from_residual.result ≡ Err c.in_err-behind.field-0.0 = grind arith in
    rw up (taken_stop _ c.in_err-behind.was)

pub returns : goal.returns
returns c = taken_did _ c.in_ok-behind.was
