-- `reader_host::iceshaft_start` meets its contract.
use Rattle.std.proofs.Common.{leb-true, leb-false}
use Rattle.reader_host.specs.Saving.{held, failed}
use Rattle.reader_host.specs.Calling.{lent_start, start_bad, start_unknown, start_refused, start_done}
use Rattle.reader_host.proofs.iceshaft_start.Goals as goal

pub returns-then-state-ne-BYTES : goal.returns-then-state-ne-BYTES
returns-then-state-ne-BYTES c = rw c.from.ensures (start_bad c.if-state-ne-BYTES.true)

pub returns-in_default : goal.returns-in_default
returns-in_default c = rw c.from-in_default.ensures (start_unknown (leb-false _ _ (failed _ _ c.mode_of.ensures c.in_default.is)))

pub returns-then-refused : goal.returns-then-refused
returns-then-refused c = start_refused c.if-state-ne-BYTES.false (leb-true _ _ (held _ c.mode_of.ensures c.in-Some.is).0) c.none-before.ensures (held _ c.mode_of.ensures c.in-Some.is).1 (lent_start _ _ c.then_some-lent.ensures c.start-report.ensures) c.number-number.ensures c.if-refused.true

pub returns : goal.returns
returns c = start_done c.if-state-ne-BYTES.false (leb-true _ _ (held _ c.mode_of.ensures c.in-Some.is).0) c.none-before.ensures (held _ c.mode_of.ensures c.in-Some.is).1 (lent_start _ _ c.then_some-lent.ensures c.start-report.ensures) c.number-number.ensures c.if-refused.false c.save.ensures
