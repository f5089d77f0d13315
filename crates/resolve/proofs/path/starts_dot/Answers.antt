-- `resolve::path::starts_dot` meets its contract.
use mathlib.Core.Path.{sym, ◌∙◌}
use mathlib.Core.Bool.{false≢true}
use Rattle.copy.specs.Copy.{rest_of}
use Rattle.resolve.specs.Segments.{seeking_begins, seeking_more, seeking_done}
use native.Mathlib.Omega.{arith}
use Rattle.resolve.proofs.path.starts_dot.Goals as goal

pub loop-at-init : goal.loop-at-init
loop-at-init c = seeking_begins c.args.path.now c.find-at.ensures

pub begins_segment-requires : goal.begins_segment-requires
begins_segment-requires c = c.loop-at.invariant.within

pub returns-then-begins_segment : goal.returns-then-begins_segment
returns-then-begins_segment c = λ e. absurd (false≢true (sym e))

pub overflow_add-at : goal.overflow_add-at
overflow_add-at c = let h = seeking_more c.args.path.now c.loop-at.invariant c.loop-at-test.true (sym c.begins_segment.ensures ∙ c.if-begins_segment.false) (rw (rest_of c.args.path.now _) at c.find.ensures) in omega (arith, h.within)

pub loop-at-smaller : goal.loop-at-smaller
loop-at-smaller c = omega (arith, c.loop-at-test.true)

pub loop-at-preserved : goal.loop-at-preserved
loop-at-preserved c = seeking_more c.args.path.now c.loop-at.invariant c.loop-at-test.true (sym c.begins_segment.ensures ∙ c.if-begins_segment.false) (rw (rest_of c.args.path.now _) at c.find.ensures)

pub returns : goal.returns
returns c = λ _. seeking_done c.args.path.now c.loop-at.invariant c.loop-at-test.false
