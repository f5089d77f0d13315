-- `in_pairs`. The invariant: the ranges from the ith on decide, and they ascend.
use Rattle.utils.proofs.Ranges.{Searching}
use Rattle.utils.proofs.in_pairs.Given as goal

abbrev pub invariant-loop-first : goal.invariant-loop-first
invariant-loop-first l = Searching l.ranges l.c l.first-index
