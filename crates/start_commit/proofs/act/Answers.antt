-- `start_commit::act` meets its contract. 2, or all that was judged is done.
use Rattle.start_commit.specs.Acts.{act_full, act_done}
use Rattle.std.proofs.Common.{Err, arith, ◌≡◌}
use Rattle.start_commit.proofs.act.Goals as goal

pub returns-in_err-written : goal.returns-in_err-written
returns-in_err-written c =
    let up : c.from_residual.result ≡ Err c.in_err-written.field-0.0 = grind arith in
    rw up (act_full c.requires.0 c.requires.2 c.requires.3 c.say.ensures c.in_err-written.was)

pub commit-behind-requires : goal.commit-behind-requires
commit-behind-requires c = c.requires.3.granted

pub enter-table-requires : goal.enter-table-requires
enter-table-requires c = (c.requires.0.table, c.requires.3.room)

pub returns : goal.returns
returns c = act_done c.requires.0 c.requires.2 c.requires.3 c.say.ensures c.requires.1 c.in_ok-written.was c.commit-behind.ensures c.enter-table.ensures
