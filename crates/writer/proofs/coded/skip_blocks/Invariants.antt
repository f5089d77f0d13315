-- `coded::skip_blocks` meets its contract. The loop's invariant: the bytes before the block are written as they are.
use Prim.Native.Nat.{◌≤◌, ◌-◌}
use Rattle.writer.specs.Coded.{Plain}
use Rattle.writer.proofs.coded.skip_blocks.Given as goal

abbrev pub invariant-loop-last : goal.invariant-loop-last
invariant-loop-last g l = Plain g.C.Coding.byte_of l.s l.from × (l.from ≤ l.last)

abbrev pub decreases-loop-last : goal.decreases-loop-last
decreases-loop-last g l = l.last - l.from
