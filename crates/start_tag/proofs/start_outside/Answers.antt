-- `start_tag::start_outside` meets its contract.
use mathlib.Core.Path.{refl}
use Rattle.start_tag.specs.Starting.{judge_asks, start_stops, start_goes}
use borrow.Author.Rules.{rules}
use Rattle.std.proofs.Common.{Err, arith, ◌≡◌}
use Rattle.start_tag.proofs.start_outside.Goals as goal

pub judge_start-requires : goal.judge_start-requires
judge_start-requires c = (judge_asks c.requires.0, record { classes = search rules; roles = search rules })

pub act-requires : goal.act-requires
act-requires c = (c.requires.0.lawful, c.requires.1, c.requires.0.level, start_goes _ c.judge_start.ensures c.in_ok-start.was)

pub returns-in_err-start : goal.returns-in_err-start
returns-in_err-start c =
    let up : c.from_residual.result ≡ Err c.in_err-start.field-0.0 = grind arith in
    rw up (start_stops _ c.judge_start.ensures c.in_err-start.was)

pub returns : goal.returns
returns c = (c.act.ensures, c.judge_start.ensures.area)
