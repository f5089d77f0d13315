-- `start_names::written_behind` meets its contract.
use mathlib.Core.Path.{◌∙◌}
use Rattle.start_names.specs.Pairs.{alone_begins, alone_hit, alone_more, alone_done, none_behind}
use Rattle.start_names.specs.Repeats.{written_test}
use native.Mathlib.Omega.{arith}
use Rattle.start_names.proofs.written_behind.Goals as goal

pub returns-then-k-j : goal.returns-then-k-j
returns-then-k-j c = none_behind _ _ _ (omega arith)

pub loop-i-init : goal.loop-i-init
loop-i-init c = alone_begins

pub returns-then-equal : goal.returns-then-equal
returns-then-equal c = alone_hit c.loop-i.invariant (omega arith) (written_test _ _ _ _ c.name_of-name.ensures c.name_of.ensures c.equal.ensures ∙ c.if-equal.true)

pub loop-i-preserved : goal.loop-i-preserved
loop-i-preserved c = alone_more c.loop-i.invariant (omega arith) (written_test _ _ _ _ c.name_of-name.ensures c.name_of.ensures c.equal.ensures ∙ c.if-equal.false)

pub returns : goal.returns
returns c = alone_done c.loop-i.invariant (omega arith)
