-- `resolve::path::output_segment` meets its contract: a dot segment, two, or another.
use Rattle.resolve.specs.Output.{output_here, output-parent, output-other}
use mathlib.Core.Path.{sym, ◌∙◌}
use Rattle.spec.specs.Bytes.{ascii}
use Rattle.resolve.proofs.path.output_segment.Goals as goal

pub shape_of-area-then-equal : goal.shape_of-area-then-equal
shape_of-area-then-equal c = c.area-1.given

pub returns-then-equal : goal.returns-then-equal
unfolding ascii
returns-then-equal c = output_here c.args.last c.args.segment.now (sym c.equal.ensures ∙ c.if-equal.true) (c.close.ensures _ c.requires.1)

pub shape_of-area-then-equal-2 : goal.shape_of-area-then-equal-2
shape_of-area-then-equal-2 c = c.area-then-equal-2-1.given

pub returns-then-equal-2 : goal.returns-then-equal-2
unfolding ascii
returns-then-equal-2 c = output-parent c.args.last c.args.segment.now (sym c.equal.ensures ∙ c.if-equal.false) (sym c.equal-2.ensures ∙ c.if-equal-2.true) c.step_back.ensures (c.close-then-equal-2.ensures _ c.step_back.ensures.within.order)

pub shape_of-area : goal.shape_of-area
shape_of-area c = c.area-2-1.given

pub returns : goal.returns
unfolding ascii
returns c = output-other c.args.last c.args.segment.now (sym c.equal.ensures ∙ c.if-equal.false) (sym c.equal-2.ensures ∙ c.if-equal-2.false) (c.append.ensures _ c.requires.1)
