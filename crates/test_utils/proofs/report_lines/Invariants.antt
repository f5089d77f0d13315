-- `report_lines`. The invariant: at most 32 bytes are gathered.
use Rattle.std.proofs.Common.{◌≤◌, ◌≡◌, length}
use Rattle.test_utils.proofs.report_lines.Given as goal

abbrev pub invariant-loop-pair : goal.invariant-loop-pair
invariant-loop-pair l =
    (l.n ≤ 32) × (length l.bytes ≡ 32) × (goal.iterator-loop-pair).can_next l.pair-iterator × (goal.iterator-loop-pair).is_finite l.pair-iterator
