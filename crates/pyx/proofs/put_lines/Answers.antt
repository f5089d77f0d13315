-- `pyx::put_lines` meets its contract.
use native.Mathlib.Omega.{arith}
use Rattle.copy.specs.Copy.{rest_of, part_of}
use Rattle.pyx.proofs.Escapes.{texting_begins, texting_end, texting_unended, texting_wrong, texting_more, texting_done}
use Rattle.pyx.proofs.put_lines.Goals as goal

pub loop-at-init : goal.loop-at-init
loop-at-init c = texting_begins c.requires

pub overflow_add-end : goal.overflow_add-end
overflow_add-end c = omega (arith, texting_end c.loop-at.invariant (rw rest_of at c.find-n.ensures))

pub returns-then-end-event : goal.returns-then-end-event
returns-then-end-event c = texting_unended c.loop-at.invariant (rw rest_of at c.find-n.ensures) c.if-end-event.true

pub slice_bounds-put_data-end : goal.slice_bounds-put_data-end
slice_bounds-put_data-end c = omega (arith, texting_end c.loop-at.invariant (rw rest_of at c.find-n.ensures))

pub returns-in_err-used : goal.returns-in_err-used
returns-in_err-used c = rw c.from_residual.ensures (texting_wrong c.loop-at.invariant (rw rest_of at c.find-n.ensures) c.if-end-event.false (rw part_of at c.in_err-used.ensures))

pub loop-at-preserved : goal.loop-at-preserved
loop-at-preserved c = texting_more c.loop-at.invariant (rw rest_of at c.find-n.ensures) c.if-end-event.false (rw part_of at c.in_ok-used.ensures)

pub returns : goal.returns
returns c = texting_done c.loop-at.invariant (omega arith)
