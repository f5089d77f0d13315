-- `copy::equal_short` meets its contract.
use Rattle.std.proofs.Common.{sym, ◌∙◌}
use native.Mathlib.Omega.{arith}
use Rattle.copy.specs.Texts.{same_is}
use Rattle.copy.specs.Blocks.{tails_begin, tails_block, tails_stop, heads_tell}
use Rattle.copy.proofs.equal_short.Goals as goal

pub returns-then-a-lt4 : goal.returns-then-a-lt4
returns-then-a-lt4 c = c.eq.ensures ∙ same_is _ _

pub returns-then-not-same_array : goal.returns-then-not-same_array
returns-then-not-same_array c = tails_stop 4 (tails_begin c.requires.as_long) (omega arith) (sym c.same_array.ensures ∙ c.if-not-same_array.true)

pub returns : goal.returns
returns c =
    c.same_array-2.ensures
    ∙ heads_tell 4 (tails_block 4 (tails_begin c.requires.as_long) (omega arith) (sym c.same_array.ensures ∙ c.if-not-same_array.false)) (omega arith)
