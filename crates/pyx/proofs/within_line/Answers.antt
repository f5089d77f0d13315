-- `pyx::within_line` meets its contract. By the tests that led to each answer.
use native.Mathlib.Omega.{arith}
use borrow.Author.Tests.{lt-ltb, le-ltb}
use Rattle.spec.specs.Bytes.{when◌then◌else◌}
use Rattle.spec.specs.Limits.{most_event_bytes}
use Rattle.pyx.specs.First.{in_line}
use Rattle.pyx.proofs.within_line.Goals as goal

pub returns-then-seen-gt-MOST_BYTES : goal.returns-then-seen-gt-MOST_BYTES
unfolding in_line most_event_bytes when◌then◌else◌
returns-then-seen-gt-MOST_BYTES c = rw (lt-ltb 32_768 c.args.seen (omega arith))

pub returns-then-last : goal.returns-then-last
unfolding in_line most_event_bytes when◌then◌else◌
returns-then-last c = rw (le-ltb 32_768 c.args.seen (omega arith), c.if-last.true)

pub returns : goal.returns
unfolding in_line most_event_bytes when◌then◌else◌
returns c = rw (le-ltb 32_768 c.args.seen (omega arith), c.if-last.false)
