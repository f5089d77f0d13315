-- `copy::equal_from_end` meets its contract.
use Rattle.std.proofs.Common.{sym, ◌∙◌}
use native.Mathlib.Omega.{arith}
use Rattle.copy.specs.Texts.{same-lengths}
use Rattle.copy.specs.Blocks.{tails_begin, tails_block, tails_stop, tails_all, heads_differ}
use Rattle.copy.proofs.equal_from_end.Goals as goal

pub returns-then-a-b : goal.returns-then-a-b
returns-then-a-b c = sym (same-lengths _ _ c.if-a-b.true)

pub returns-then-a-lt8 : goal.returns-then-a-lt8
returns-then-a-lt8 c = c.equal_short.ensures

pub returns-then-not-same_array : goal.returns-then-not-same_array
returns-then-not-same_array c = tails_stop 8 (tails_begin c.if-a-b.false) c.if-a-lt8.false (sym c.same_array.ensures ∙ c.if-not-same_array.true)

pub returns-then-not-same_array-2 : goal.returns-then-not-same_array-2
returns-then-not-same_array-2 c = heads_differ 8 _ _ c.if-a-b.false (sym c.same_array-2.ensures ∙ c.if-not-same_array-2.true)

pub loop-n-init : goal.loop-n-init
loop-n-init c = tails_block 8 (tails_begin c.if-a-b.false) c.if-a-lt8.false (sym c.same_array.ensures ∙ c.if-not-same_array.false)

pub returns-then-not-same_array-3 : goal.returns-then-not-same_array-3
returns-then-not-same_array-3 c = tails_stop 8 c.loop-n.invariant (omega arith) (sym c.same_array-in-loop-n.ensures ∙ c.if-not-same_array-3.true)

pub loop-n-preserved : goal.loop-n-preserved
loop-n-preserved c = tails_block 8 c.loop-n.invariant (omega arith) (sym c.same_array-in-loop-n.ensures ∙ c.if-not-same_array-3.false)

pub returns : goal.returns
returns c = tails_all 8 c.loop-n.invariant (omega arith) (sym c.same_array-2.ensures ∙ c.if-not-same_array-2.false)
