-- `start_names::repeated_expanded` meets its contract.
use mathlib.Core.Path.{sym, ◌∙◌}
use Rattle.start_names.specs.Pairs.{unpaired_begins, unpaired_hit, unpaired_more, unpaired_done}
use native.Mathlib.Omega.{arith}
use Rattle.start_names.proofs.repeated_expanded.Goals as goal

pub loop-j-init : goal.loop-j-init
loop-j-init c = unpaired_begins

pub returns-then-key_behind : goal.returns-then-key_behind
returns-then-key_behind c = unpaired_hit c.loop-j.invariant (omega arith) (sym c.key_behind.ensures ∙ c.if-key_behind.true)

pub loop-j-preserved : goal.loop-j-preserved
loop-j-preserved c = unpaired_more c.loop-j.invariant (omega arith) (sym c.key_behind.ensures ∙ c.if-key_behind.false)

pub returns : goal.returns
returns c = unpaired_done c.loop-j.invariant (omega arith)
