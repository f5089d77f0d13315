-- `resolve::path::output_segments` meets its contract.
use mathlib.Core.Path.{◌∙◌}
use Rattle.copy.specs.Copy.{rest_of}
use Rattle.resolve.specs.Output.{going_begins, going_more, going_done, end_within, segment_plain, next_end}
use native.Mathlib.Omega.{arith}
use Rattle.resolve.proofs.path.output_segments.Goals as goal

pub loop-end-init : goal.loop-end-init
loop-end-init c = going_begins (record { order = c.requires.1; within = c.requires.0.within }) c.find-end.ensures

pub slice_bounds-output_segment-count : goal.slice_bounds-output_segment-count
slice_bounds-output_segment-count c = omega (arith, c.loop-end.invariant.segment)

pub slice_bounds-output_segment-start : goal.slice_bounds-output_segment-start
slice_bounds-output_segment-start c = omega (arith, c.loop-end.invariant.segment)

pub slice_bounds-output_segment-end : goal.slice_bounds-output_segment-end
slice_bounds-output_segment-end c = end_within c.loop-end.invariant

pub output_segment-o-requires : goal.output_segment-o-requires
output_segment-o-requires c = (record { within = c.loop-end.invariant.within.within; few = omega (arith, c.loop-end.invariant.few, c.requires.0.few, c.loop-end.invariant.start) }, c.loop-end.invariant.within.order, segment_plain c.loop-end.invariant)

pub overflow_add-end : goal.overflow_add-end
overflow_add-end c = omega (arith, next_end c.args.path.now _ c.find.ensures (omega (arith, c.loop-end-test.true)))

pub loop-end-smaller : goal.loop-end-smaller
loop-end-smaller c = omega (arith, c.loop-end.invariant.segment, c.loop-end-test)

pub loop-end-preserved : goal.loop-end-preserved
loop-end-preserved c = going_more c.loop-end.invariant c.loop-end-test.true c.output_segment-o.ensures (rw (rest_of c.args.path.now _) at c.find.ensures)

pub slice_bounds-output_segment-count-2 : goal.slice_bounds-output_segment-count-2
slice_bounds-output_segment-count-2 c = omega (arith, c.loop-end.invariant.segment)

pub slice_bounds-output_segment-start-2 : goal.slice_bounds-output_segment-start-2
slice_bounds-output_segment-start-2 c = omega (arith, c.loop-end.invariant.segment)

pub slice_bounds-output_segment-end-2 : goal.slice_bounds-output_segment-end-2
slice_bounds-output_segment-end-2 c = end_within c.loop-end.invariant

pub output_segment-requires : goal.output_segment-requires
output_segment-requires c = (record { within = c.loop-end.invariant.within.within; few = omega (arith, c.loop-end.invariant.few, c.requires.0.few, c.loop-end.invariant.start) }, c.loop-end.invariant.within.order, segment_plain c.loop-end.invariant)

pub shape_of-area : goal.shape_of-area
shape_of-area c = c.output_segment.ensures.same ∙ c.loop-end.invariant.same

pub returns : goal.returns
returns c = going_done c.loop-end.invariant c.loop-end-test.false c.output_segment.ensures
