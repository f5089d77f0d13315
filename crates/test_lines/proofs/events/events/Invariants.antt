-- `events::events` is safe and ends: each event is some bytes of the rest. The arrays keep their lengths.
use Rattle.std.proofs.Common.{◌≡◌, length}
use Rattle.test_lines.proofs.events.events.Given as goal

abbrev pub invariant-loop-n : goal.invariant-loop-n
invariant-loop-n l = (length l.scratch ≡ 32_768) × (length l.spans ≡ 8)

abbrev pub decreases-loop-n : goal.decreases-loop-n
decreases-loop-n l = length l.rest
