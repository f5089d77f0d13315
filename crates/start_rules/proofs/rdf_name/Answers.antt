-- `start_rules::rdf_name` meets its contract: an IRI of the namespace begins with it.
use Rattle.start_rules.specs.Names.{name-outside, name-inside}
use Rattle.copy.specs.Texts.{begins-length}
use Rattle.spec.specs.Bytes.{ascii}
use mathlib.Core.Path.{sym, ◌∙◌}
use native.Mathlib.Omega.{arith}
use Rattle.start_rules.proofs.rdf_name.Goals as goal

pub returns-then-not-begins : goal.returns-then-not-begins
unfolding ascii
returns-then-not-begins c = name-outside _ (sym c.begins.ensures ∙ c.if-not-begins.true)

pub slice_bounds-result-count-2 : goal.slice_bounds-result-count-2
unfolding ascii
slice_bounds-result-count-2 c = omega (arith, begins-length _ _ (sym c.begins.ensures ∙ c.if-not-begins.false))

pub slice_bounds-result-start-2 : goal.slice_bounds-result-start-2
unfolding ascii
slice_bounds-result-start-2 c = omega (arith, begins-length _ _ (sym c.begins.ensures ∙ c.if-not-begins.false))

pub slice_bounds-result-end-2 : goal.slice_bounds-result-end-2
slice_bounds-result-end-2 c = omega arith

pub returns : goal.returns
unfolding ascii
returns c = name-inside _ (sym c.begins.ensures ∙ c.if-not-begins.false)
