-- `start_names::repeated_written` meets its contract.
use mathlib.Core.Path.{sym, ◌∙◌}
use Rattle.start_names.specs.Pairs.{unpaired_begins, unpaired_hit, unpaired_more, unpaired_done}
use Rattle.start_names.specs.Repeats.{written_means}
use native.Mathlib.Omega.{arith}
use Rattle.start_names.proofs.repeated_written.Goals as goal

pub loop-j-init : goal.loop-j-init
loop-j-init c = unpaired_begins

pub returns-then-written_behind : goal.returns-then-written_behind
returns-then-written_behind c = unpaired_hit c.loop-j.invariant (omega arith) (sym c.written_behind.ensures ∙ c.if-written_behind.true) ∙ written_means _ _ _

pub loop-j-preserved : goal.loop-j-preserved
loop-j-preserved c = unpaired_more c.loop-j.invariant (omega arith) (sym c.written_behind.ensures ∙ c.if-written_behind.false)

pub returns : goal.returns
returns c = unpaired_done c.loop-j.invariant (omega arith) ∙ written_means _ _ _
