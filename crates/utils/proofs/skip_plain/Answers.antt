-- `skip_plain`. The invariant: the bytes passed are plain, so the rest decides.
use mathlib.Core.Path.{sym, ◌∙◌}
use Rattle.spec.specs.XmlNames.{is_char}
use Rattle.utils.specs.Plain.{plain_text}
use Rattle.utils.proofs.Walking.{to_end, walked_begins, every_by}
use Rattle.utils.proofs.Plain.{plain-text, block, walked_block, walked_last}
use native.Mathlib.Omega.{arith}
use Rattle.utils.proofs.skip_plain.Goals as goal

pub returns-then-s-lt-BLOCK : goal.returns-then-s-lt-BLOCK
returns-then-s-lt-BLOCK c = walked_begins _ _

pub loop-i-init : goal.loop-i-init
loop-i-init c = walked_begins _ _

pub returns-then-not-is_plain_block : goal.returns-then-not-is_plain_block
returns-then-not-is_plain_block c = c.loop-i.invariant

pub loop-i-preserved : goal.loop-i-preserved
loop-i-preserved c = walked_block (every_by is_char) plain_text plain-text 16 c.loop-i.invariant (omega arith) (rw block at (sym c.is_plain_block.ensures ∙ c.if-not-is_plain_block.false))

pub returns-then-is_plain_block : goal.returns-then-is_plain_block
returns-then-is_plain_block c = walked_last (every_by is_char) plain_text plain-text 16 c.loop-i.invariant (omega arith) (rw to_end at (sym c.is_plain_block-2.ensures ∙ c.if-is_plain_block.true))

pub returns : goal.returns
returns c = c.loop-i.invariant
