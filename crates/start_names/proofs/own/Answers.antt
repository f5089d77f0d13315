-- `start_names::own` meets its contract.
use mathlib.Core.Path.{sym, ◌∙◌}
use Rattle.start_names.specs.Found.{passed-begins, passed_more, passed_hit, passed_done}
use native.Mathlib.Omega.{arith}
use Rattle.start_names.proofs.own.Goals as goal

pub loop-j-init : goal.loop-j-init
loop-j-init c = passed-begins

pub returns-then-binds : goal.returns-then-binds
returns-then-binds c = passed_hit c.loop-j.invariant (omega arith) (sym c.binds.ensures ∙ c.if-binds.true) c.own_at.ensures

pub loop-j-preserved : goal.loop-j-preserved
loop-j-preserved c = passed_more c.loop-j.invariant (omega arith) (sym c.binds.ensures ∙ c.if-binds.false)

pub returns : goal.returns
returns c = passed_done c.loop-j.invariant (omega arith)
