-- `start_form::marks::repeated` meets its contract.
use mathlib.Core.Path.{sym, ◌∙◌}
use lib.ListN.{length-replicate}
use Rattle.start_names.specs.Pairs.{unpaired_begins, unpaired_hit, unpaired_more, unpaired_done}
use native.Mathlib.Omega.{arith}
use Rattle.start_form.proofs.marks.repeated.Goals as goal

pub mark_all-requires : goal.mark_all-requires
mark_all-requires c = record { near = rw length-replicate c.requires; far = rw length-replicate c.requires }

pub loop-j-init : goal.loop-j-init
loop-j-init c = unpaired_begins

pub repeated_behind-requires : goal.repeated_behind-requires
repeated_behind-requires c = (c.mark_all.ensures.marked, omega arith)

pub returns-then-repeated_behind : goal.returns-then-repeated_behind
returns-then-repeated_behind c = unpaired_hit c.loop-j.invariant (omega arith) (sym c.repeated_behind.ensures ∙ c.if-repeated_behind.true)

pub loop-j-preserved : goal.loop-j-preserved
loop-j-preserved c = unpaired_more c.loop-j.invariant (omega arith) (sym c.repeated_behind.ensures ∙ c.if-repeated_behind.false)

pub returns : goal.returns
returns c = unpaired_done c.loop-j.invariant (omega arith)
