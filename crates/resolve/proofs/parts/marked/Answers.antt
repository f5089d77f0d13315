-- `resolve::parts::marked` meets its contract.
use mathlib.Core.Path.{sym, ◌∙◌}
use Rattle.copy.specs.Texts.{begins-length}
use Rattle.resolve.specs.Parts.{marked_none, marked_there, marked-within}
use native.Mathlib.Omega.{arith}
use Rattle.resolve.proofs.parts.marked.Goals as goal

pub returns-then-not-begins : goal.returns-then-not-begins
returns-then-not-begins c = marked_none _ _ _ (sym c.begins.ensures ∙ c.if-not-begins.true)

pub slice_bounds-until-count : goal.slice_bounds-until-count
slice_bounds-until-count c = begins-length _ _ (sym c.begins.ensures ∙ c.if-not-begins.false)

pub slice_bounds-until-start : goal.slice_bounds-until-start
slice_bounds-until-start c = omega (arith, begins-length _ _ (sym c.begins.ensures ∙ c.if-not-begins.false))

pub overflow_add-result : goal.overflow_add-result
overflow_add-result c = omega (arith, marked_there _ _ _ _ (sym c.begins.ensures ∙ c.if-not-begins.false) c.until.ensures, marked-within c.args.mark.now c.args.stop.now c.args.s.now)

pub returns : goal.returns
returns c = marked_there _ _ _ _ (sym c.begins.ensures ∙ c.if-not-begins.false) c.until.ensures
