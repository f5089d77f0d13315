-- `pyx::decode` meets its contract. Each early return is one law; the rest is `by_first_line` on an event whose texts fit.
use Rattle.pyx.proofs.Events.{decode-long, decode_short, decode-spaced, decode_wrong, decode-lines}
use native.Mathlib.Omega.{arith}
use Rattle.pyx.proofs.decode.Goals as goal

pub returns-then-event-gt-MOST_BYTES : goal.returns-then-event-gt-MOST_BYTES
returns-then-event-gt-MOST_BYTES c = decode-long c.args.event.now c.args.scratch.now c.args.spans.now (omega arith)

pub returns-then-event-scratch : goal.returns-then-event-scratch
returns-then-event-scratch c = decode_short c.args.event.now c.args.scratch.now c.args.spans.now (omega arith) (omega arith)

pub returns-in-Err-Spaced : goal.returns-in-Err-Spaced
returns-in-Err-Spaced c = decode-spaced c.args.event.now c.args.scratch.now c.args.spans.now c.if-event-gt-MOST_BYTES.false c.if-event-scratch.false (rw c.in-Err-Spaced.field-0-is at c.in-Err-Spaced.ensures)

pub returns-in-Err-NotText : goal.returns-in-Err-NotText
returns-in-Err-NotText c = let r = rw c.in-Err-NotText.field-0-is at c.in-Err-NotText.ensures in decode_wrong c.args.event.now c.args.scratch.now c.args.spans.now c.if-event-gt-MOST_BYTES.false c.if-event-scratch.false r.0 r.1

pub returns-in-Ok : goal.returns-in-Ok
returns-in-Ok c = decode-lines c.args.event.now c.args.scratch.now c.args.spans.now c.if-event-gt-MOST_BYTES.false c.if-event-scratch.false c.in-Ok.ensures c.by_first_line.ensures
