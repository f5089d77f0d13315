-- `image::registers_of` meets its contract, by the flag that is none.
use Rattle.reader_host.specs.Image.{registers_of}
use Rattle.reader_host.specs.Saving.{held, failed, none_there, closed_fails, rooted_fails, based_fails, mode_fails, all_hold}
use Rattle.reader_host.proofs.image.registers_of.Goals as goal

pub returns-in_err-mode : goal.returns-in_err-mode
returns-in_err-mode c = none_there _ (mode_fails _ (failed _ _ c.mode_of.ensures c.in_err-mode.was)) c.from_residual.ensures

pub returns-in_err-closed : goal.returns-in_err-closed
returns-in_err-closed c = none_there _ (closed_fails _ (failed _ _ c.flag_of.ensures c.in_err-closed.was)) c.from_residual-in_err-closed.ensures

pub returns-in_err-rooted : goal.returns-in_err-rooted
returns-in_err-rooted c = none_there _ (rooted_fails _ (failed _ _ c.flag_of-2.ensures c.in_err-rooted.was)) c.from_residual-in_err-rooted.ensures

pub returns-in_err-based : goal.returns-in_err-based
returns-in_err-based c = none_there _ (based_fails _ (failed _ _ c.flag_of-3.ensures c.in_err-based.was)) c.from_residual-in_err-based.ensures

pub returns : goal.returns
unfolding registers_of
returns c =
    let m = held _ c.mode_of.ensures c.in_ok-mode.was in
    let closed = held _ c.flag_of.ensures c.in_ok-closed.was in
    let rooted = held _ c.flag_of-2.ensures c.in_ok-rooted.was in
    let based = held _ c.flag_of-3.ensures c.in_ok-based.was in
    rw (all_hold c.args.ns closed.0 rooted.0 based.0 m.0, m.1, closed.1, rooted.1, based.1)
