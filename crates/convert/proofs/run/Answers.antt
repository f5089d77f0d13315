-- `convert::run` meets its contract.
use mathlib.Core.Path.{refl, ◌∙◌}
use native.Mathlib.Omega.{arith}
use Rattle.reader.specs.Goes.{areas_then, still_roomy}
use Rattle.convert.specs.Running.{lengths_here, lengths_then, running_begins, running_stands, running_on, running_ends, running_spent}
use Rattle.convert.proofs.run.Goals as goal

pub loop-turns-init : goal.loop-turns-init
loop-turns-init g c = (running_begins c.first-place.ensures c.requires.0, lengths_here, record { scratch = refl; spans = refl; area = refl })

pub turn-next-requires : goal.turn-next-requires
turn-next-requires g c = (running_stands c.loop-turns.invariant.0 (omega arith), still_roomy c.loop-turns.invariant.2 c.requires.1)

pub loop-turns-preserved : goal.loop-turns-preserved
loop-turns-preserved g c = (running_on c.loop-turns.invariant.0 c.turn-next.ensures.0 c.in-Continue.is, lengths_then c.loop-turns.invariant.1 c.turn-next.ensures.0.lengths, areas_then c.loop-turns.invariant.2 c.turn-next.ensures.1)

pub shape_of-frames-in-Break : goal.shape_of-frames-in-Break
shape_of-frames-in-Break g c = c.turn-next.ensures.0.lengths.frames ∙ c.loop-turns.invariant.1.frames

pub shape_of-bindings-in-Break : goal.shape_of-bindings-in-Break
shape_of-bindings-in-Break g c = c.turn-next.ensures.0.lengths.bindings ∙ c.loop-turns.invariant.1.bindings

pub shape_of-inners-in-Break : goal.shape_of-inners-in-Break
shape_of-inners-in-Break g c = c.turn-next.ensures.0.lengths.inners ∙ c.loop-turns.invariant.1.inners

pub shape_of-work-in-Break : goal.shape_of-work-in-Break
shape_of-work-in-Break g c = c.turn-next.ensures.0.lengths.work ∙ c.loop-turns.invariant.1.work

pub shape_of-ids-in-Break : goal.shape_of-ids-in-Break
shape_of-ids-in-Break g c = c.turn-next.ensures.0.lengths.ids ∙ c.loop-turns.invariant.1.ids

pub shape_of-input-in-Break : goal.shape_of-input-in-Break
shape_of-input-in-Break g c = c.turn-next.ensures.0.lengths.buffer ∙ c.loop-turns.invariant.1.buffer

pub shape_of-output-in-Break : goal.shape_of-output-in-Break
shape_of-output-in-Break g c = c.turn-next.ensures.0.lengths.out ∙ c.loop-turns.invariant.1.out

pub shape_of-scratch-in-Break : goal.shape_of-scratch-in-Break
shape_of-scratch-in-Break g c = c.turn-next.ensures.1.scratch ∙ c.loop-turns.invariant.2.scratch

pub shape_of-spans-in-Break : goal.shape_of-spans-in-Break
shape_of-spans-in-Break g c = c.turn-next.ensures.1.spans ∙ c.loop-turns.invariant.2.spans

pub shape_of-area-in-Break : goal.shape_of-area-in-Break
shape_of-area-in-Break g c = c.turn-next.ensures.1.area ∙ c.loop-turns.invariant.2.area

pub returns-in-Break : goal.returns-in-Break
returns-in-Break g c = rw c.first-place.ensures at (running_ends c.loop-turns.invariant.0 c.turn-next.ensures.0 (omega arith) c.in-Break.is)

pub shape_of-frames : goal.shape_of-frames
shape_of-frames g c = c.loop-turns.invariant.1.frames

pub shape_of-bindings : goal.shape_of-bindings
shape_of-bindings g c = c.loop-turns.invariant.1.bindings

pub shape_of-inners : goal.shape_of-inners
shape_of-inners g c = c.loop-turns.invariant.1.inners

pub shape_of-work : goal.shape_of-work
shape_of-work g c = c.loop-turns.invariant.1.work

pub shape_of-ids : goal.shape_of-ids
shape_of-ids g c = c.loop-turns.invariant.1.ids

pub shape_of-input : goal.shape_of-input
shape_of-input g c = c.loop-turns.invariant.1.buffer

pub shape_of-output : goal.shape_of-output
shape_of-output g c = c.loop-turns.invariant.1.out

pub shape_of-scratch : goal.shape_of-scratch
shape_of-scratch g c = c.loop-turns.invariant.2.scratch

pub shape_of-spans : goal.shape_of-spans
shape_of-spans g c = c.loop-turns.invariant.2.spans

pub shape_of-area : goal.shape_of-area
shape_of-area g c = c.loop-turns.invariant.2.area

pub returns : goal.returns
returns g c = rw c.first-place.ensures at (running_spent c.loop-turns.invariant.0 (omega arith))
