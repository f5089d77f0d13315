-- `in_ranges`. The invariant: the ranges from the ith number on decide, and they ascend.
use Rattle.utils.proofs.Bounds.{search_begins, search_before, search_hit, search_more, search_done}
use native.Mathlib.Omega.{arith}
use Rattle.utils.proofs.in_ranges.Goals as goal

pub loop-i-init : goal.loop-i-init
loop-i-init c = search_begins _ _ c.requires

pub returns-then-c-bounds : goal.returns-then-c-bounds
returns-then-c-bounds c = search_before c.loop-i.invariant (omega arith) c.if-c-bounds.true

pub returns-then-c-bounds-2 : goal.returns-then-c-bounds-2
returns-then-c-bounds-2 c = search_hit c.loop-i.invariant (omega arith) c.if-c-bounds.false c.if-c-bounds-2.true

pub loop-i-preserved : goal.loop-i-preserved
loop-i-preserved c = search_more c.loop-i.invariant (omega arith) c.if-c-bounds.false c.if-c-bounds-2.false

pub returns : goal.returns
returns c = search_done c.loop-i.invariant (omega arith)
