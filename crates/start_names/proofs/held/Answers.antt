-- `start_names::held` meets its contract.
use mathlib.Core.Path.{sym, ◌∙◌}
use Rattle.start_names.specs.Found.{sought_begins, sought_more, sought_hit, sought_done}
use native.Mathlib.Omega.{arith}
use Rattle.start_names.proofs.held.Goals as goal

pub loop-i-init : goal.loop-i-init
loop-i-init c = sought_begins

pub returns-then-equal : goal.returns-then-equal
returns-then-equal c = sought_hit c.loop-i.invariant (omega arith) c.prefix_at.ensures (sym c.equal.ensures ∙ c.if-equal.true) c.held_at.ensures

pub loop-i-preserved : goal.loop-i-preserved
loop-i-preserved c = sought_more c.loop-i.invariant (omega arith) c.prefix_at.ensures (sym c.equal.ensures ∙ c.if-equal.false)

pub returns : goal.returns
returns c = sought_done c.loop-i.invariant (omega arith)
