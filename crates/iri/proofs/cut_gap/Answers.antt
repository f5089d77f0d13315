-- `iri::cut_gap` meets its contract.
use mathlib.Core.Path.{sym, ◌∙◌}
use native.Mathlib.Omega.{arith}
use lib.ListN.{length-drop}
use Rattle.spec.specs.Bytes.{ascii}
use Rattle.copy.specs.Texts.{begins-length}
use Rattle.utils.proofs.Walking.{to_end}
use Rattle.iri.proofs.Searches.{gapless_stop, gapless_more, gapless_done}
use Rattle.iri.proofs.cut_gap.Goals as goal

pub slice_bounds-result-count : goal.slice_bounds-result-count
slice_bounds-result-count c = omega (arith, begins-length _ _ (sym (rw to_end at c.begins.ensures) ∙ c.if-begins.true), length-drop c.loop-i.i c.args.s.now)

pub slice_bounds-result-start : goal.slice_bounds-result-start
slice_bounds-result-start c = omega (arith, begins-length _ _ (sym (rw to_end at c.begins.ensures) ∙ c.if-begins.true), length-drop c.loop-i.i c.args.s.now)

pub returns-then-begins : goal.returns-then-begins
unfolding ascii
returns-then-begins c = rw to_end (gapless_stop c.loop-i.invariant (omega arith) (sym (rw to_end at c.begins.ensures) ∙ c.if-begins.true))

pub loop-i-preserved : goal.loop-i-preserved
unfolding ascii
loop-i-preserved c = gapless_more c.loop-i.invariant (omega arith) (sym (rw to_end at c.begins.ensures) ∙ c.if-begins.false)

pub returns : goal.returns
returns c = gapless_done c.loop-i.invariant (omega arith)
