-- `literal::start_inside` meets its contract: judged, then copied.
use Rattle.copy.specs.Copy.{part}
use Rattle.literal.specs.Judged.{judged_refused}
use Rattle.literal.specs.Entered.{ready}
use Rattle.std.proofs.Common.{Err, arith, ◌≡◌}
use Rattle.literal.proofs.start_inside.Goals as goal

pub judge-requires : goal.judge-requires
unfolding part
judge-requires c = (rw c.piece-name.ensures c.requires.3.name, c.requires.3.names)

pub copy_element-requires : goal.copy_element-requires
copy_element-requires c = ready c.requires.0 c.requires.1 c.requires.2 c.requires.3 c.piece-name.ensures c.judge.ensures c.in_ok-judge.was

pub returns-in_err-judge : goal.returns-in_err-judge
unfolding part
returns-in_err-judge c =
    let up : c.from_residual.result ≡ Err c.in_err-judge.field-0.0 = grind arith in
    rw (up, ← c.piece-name.ensures) (judged_refused c.requires.0.valid c.requires.2 c.judge.ensures c.in_err-judge.was)

pub returns : goal.returns
unfolding part
returns c = rw c.piece-name.ensures at c.copy_element.ensures
