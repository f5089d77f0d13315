-- `in_pairs`. The invariant: the ranges from the ith on decide, and they ascend.
use Rattle.utils.proofs.Ranges.{search_begins, search_before, search_hit, search_more, search_done}
use native.Mathlib.Omega.{arith}
use Rattle.utils.proofs.in_pairs.Goals as goal

pub loop-first-init : goal.loop-first-init
loop-first-init c = search_begins _ _ c.requires

pub returns-then-c-first : goal.returns-then-c-first
returns-then-c-first c = search_before c.loop-first.invariant (omega arith) c.if-c-first.true

pub returns-then-c-last : goal.returns-then-c-last
returns-then-c-last c = search_hit c.loop-first.invariant (omega arith) c.if-c-first.false c.if-c-last.true

pub loop-first-preserved : goal.loop-first-preserved
loop-first-preserved c = search_more c.loop-first.invariant (omega arith) c.if-c-first.false c.if-c-last.false

pub returns : goal.returns
returns c = search_done c.loop-first.invariant (omega arith)
