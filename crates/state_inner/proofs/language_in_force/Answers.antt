-- `state_inner::language_in_force` meets its contract. A tag of no bytes is none.
use Rattle.state_inner.specs.Calls.{language_in, tag_unsaid, tag_none, tag-some}
use mathlib.Core.Path.{◌∙◌}
use Rattle.state_inner.proofs.language_in_force.Goals as goal

pub returns-in_err-said : goal.returns-in_err-said
unfolding language_in
returns-in_err-said c = c.from_residual.ensures ∙ tag_unsaid _ c.in_err-said.ensures

pub returns-then-said-eq0 : goal.returns-then-said-eq0
unfolding language_in
returns-then-said-eq0 c = tag_none _ c.in_ok-said.ensures c.if-said-eq0.true

pub returns : goal.returns
unfolding language_in
returns c = tag-some _ c.in_ok-said.ensures c.if-said-eq0.false
