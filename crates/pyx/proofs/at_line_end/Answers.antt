-- `pyx::at_line_end` meets its contract. By the tests that led to each answer.
use native.Mathlib.Omega.{arith}
use borrow.Author.Tests.{lt-ltb, le-ltb}
use Rattle.spec.specs.Bytes.{byte, when◌then◌else◌}
use Rattle.spec.specs.Limits.{most_event_bytes}
use Rattle.spec.specs.PyxCut.{may_go_on}
use Rattle.pyx.specs.First.{at_line_end}
use Rattle.pyx.proofs.at_line_end.Goals as goal

pub returns-then-seen-gt-MOST_BYTES : goal.returns-then-seen-gt-MOST_BYTES
unfolding at_line_end may_go_on most_event_bytes byte when◌then◌else◌
returns-then-seen-gt-MOST_BYTES c = rw (lt-ltb 32_768 c.args.seen (omega arith))

pub returns-then-last : goal.returns-then-last
unfolding at_line_end may_go_on most_event_bytes byte when◌then◌else◌
returns-then-last c = rw (le-ltb 32_768 c.args.seen (omega arith), c.if-last.true)

pub returns-then-c : goal.returns-then-c
unfolding at_line_end may_go_on most_event_bytes byte when◌then◌else◌
returns-then-c c = rw (le-ltb 32_768 c.args.seen (omega arith), c.if-last.false, c.if-c.true)

pub returns : goal.returns
unfolding at_line_end may_go_on most_event_bytes byte when◌then◌else◌
returns c = rw (le-ltb 32_768 c.args.seen (omega arith), c.if-last.false, c.if-c.false)
