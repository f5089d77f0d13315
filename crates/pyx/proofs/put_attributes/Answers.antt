-- `pyx::put_attributes` meets its contract.
use native.Mathlib.Omega.{arith}
use Rattle.copy.specs.Copy.{rest_of, part_of}
use Rattle.pyx.proofs.Attributes.{laying_begins, laying_end, laying_clear, laying_room, laying_unended, laying_wrong, laying_within, laying_small, laying_more, laying_done}
use Rattle.pyx.proofs.put_attributes.Goals as goal

pub loop-at-init : goal.loop-at-init
loop-at-init c = laying_begins c.requires

pub overflow_add-end : goal.overflow_add-end
overflow_add-end c = omega (arith, laying_end c.loop-at.invariant (rw rest_of at c.find-n.ensures))

pub shape_of-scratch-then-end-event : goal.shape_of-scratch-then-end-event
shape_of-scratch-then-end-event c = c.loop-at.invariant.kept.same

pub shape_of-spans-then-end-event : goal.shape_of-spans-then-end-event
shape_of-spans-then-end-event c = c.loop-at.invariant.words

pub returns-then-end-event : goal.returns-then-end-event
returns-then-end-event c = laying_unended c.loop-at.invariant (rw rest_of at c.find-n.ensures) c.if-end-event.true

pub slice_bounds-put_attribute-end : goal.slice_bounds-put_attribute-end
slice_bounds-put_attribute-end c = omega (arith, laying_end c.loop-at.invariant (rw rest_of at c.find-n.ensures))

pub put_attribute-requires : goal.put_attribute-requires
put_attribute-requires c = record { line_value = rw part_of (laying_clear c.loop-at.invariant (rw rest_of at c.find-n.ensures)); line_in_bounds = rw part_of (laying_room c.loop-at.invariant (rw rest_of at c.find-n.ensures)) }

pub returns-in_err-entry : goal.returns-in_err-entry
returns-in_err-entry c = rw c.from_residual.ensures (laying_wrong c.loop-at.invariant (rw rest_of at c.find-n.ensures) c.if-end-event.false (rw part_of at c.in_err-entry.ensures))

pub enter-requires : goal.enter-requires
enter-requires c = rw c.in_ok-entry.ensures.0 (laying_small c.loop-at.invariant (rw rest_of at c.find-n.ensures) c.if-end-event.false (rw part_of at c.in_ok-entry.ensures).1)

pub overflow_add-used : goal.overflow_add-used
overflow_add-used c = omega (arith, laying_within c.loop-at.invariant (rw rest_of at c.find-n.ensures) c.if-end-event.false (rw part_of at c.in_ok-entry.ensures).1, laying_end c.loop-at.invariant (rw rest_of at c.find-n.ensures))

pub overflow_add-used-in-loop-at : goal.overflow_add-used-in-loop-at
overflow_add-used-in-loop-at c = omega (arith, laying_within c.loop-at.invariant (rw rest_of at c.find-n.ensures) c.if-end-event.false (rw part_of at c.in_ok-entry.ensures).1, laying_end c.loop-at.invariant (rw rest_of at c.find-n.ensures))

pub overflow_add-k : goal.overflow_add-k
overflow_add-k c = omega (arith, c.loop-at.invariant.few, c.loop-at.invariant.within)

pub overflow_add-at : goal.overflow_add-at
overflow_add-at c = omega (arith, laying_end c.loop-at.invariant (rw rest_of at c.find-n.ensures))

pub loop-at-smaller : goal.loop-at-smaller
loop-at-smaller c = omega arith

pub loop-at-preserved : goal.loop-at-preserved
loop-at-preserved c = laying_more c.loop-at.invariant (rw rest_of at c.find-n.ensures) c.if-end-event.false (rw part_of at c.in_ok-entry.ensures).1 (rw c.in_ok-entry.ensures.0 at c.enter.ensures)

pub shape_of-scratch : goal.shape_of-scratch
shape_of-scratch c = c.loop-at.invariant.kept.same

pub shape_of-spans : goal.shape_of-spans
shape_of-spans c = c.loop-at.invariant.words

pub returns : goal.returns
returns c = laying_done c.loop-at.invariant (omega arith)
