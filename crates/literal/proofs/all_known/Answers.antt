-- `literal::all_known` meets its contract.
use Rattle.literal.specs.Known.{knowing_begins, knowing_stop, knowing_more, knowing_done}
use native.Mathlib.Omega.{arith}
use Rattle.std.proofs.Common.{sym}
use Rattle.std.proofs.Common.{◌∙◌}
use Rattle.literal.proofs.all_known.Goals as goal

pub loop-j-init : goal.loop-j-init
loop-j-init c = knowing_begins

pub returns-then-not-known_at : goal.returns-then-not-known_at
returns-then-not-known_at c = knowing_stop c.loop-j.invariant c.requires (omega arith) (sym c.known_at.ensures ∙ c.if-not-known_at.true)

pub loop-j-preserved : goal.loop-j-preserved
loop-j-preserved c = knowing_more c.loop-j.invariant c.requires (omega arith) (sym c.known_at.ensures ∙ c.if-not-known_at.false)

pub returns : goal.returns
returns c = knowing_done c.loop-j.invariant (omega arith)
