-- `is_printable`. The invariant: the bytes passed are printable, so the rest decides.
use mathlib.Core.Path.{sym, ◌∙◌}
use mathlib.Core.Bool.{false≢true}
use Rattle.utils.specs.Plain.{printable}
use Rattle.utils.proofs.Walking.{to_end, walked_begins}
use Rattle.utils.proofs.Plain.{block, every-block, every-last}
use native.Mathlib.Omega.{arith}
use Rattle.utils.proofs.is_printable.Goals as goal

pub returns-then-s-lt-BLOCK : goal.returns-then-s-lt-BLOCK
returns-then-s-lt-BLOCK c = c.is_printable_short.ensures

pub loop-i-init : goal.loop-i-init
loop-i-init c = walked_begins _ _

pub returns-then-not-is_printable_block : goal.returns-then-not-is_printable_block
returns-then-not-is_printable_block c = λ e. absurd (false≢true e)

pub loop-i-preserved : goal.loop-i-preserved
loop-i-preserved c = every-block printable 16 c.loop-i.invariant (omega arith) (rw block at (sym c.is_printable_block.ensures ∙ c.if-not-is_printable_block.false))

pub returns : goal.returns
returns c = λ e. every-last printable 16 c.loop-i.invariant (omega arith) (rw to_end at (sym c.is_printable_block-2.ensures ∙ e))
