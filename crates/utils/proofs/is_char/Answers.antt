-- `is_char`: below the space by a computed test, from it on by the ranges.
use Rattle.utils.proofs.Computed.{controls}
use Rattle.utils.proofs.Names.{char_high}
use Rattle.utils.proofs.is_char.Goals as goal

pub returns-then-c-lt32 : goal.returns-then-c-lt32
returns-then-c-lt32 c = controls _ c.if-c-lt32.true

pub returns : goal.returns
returns c = char_high _ c.if-c-lt32.false
