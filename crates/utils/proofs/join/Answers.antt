-- `join`. The invariant: what is left, joined to the value so far, gives what the whole does.
use mathlib.Core.Path.{sym, ◌∙◌}
use Rattle.utils.proofs.Decoding.{joining_begins, joining_small, joining_broken, joining_more, joining_done}
use native.Mathlib.Omega.{arith}
use borrow.Author.Rules.{rules}
use Rattle.utils.proofs.join.Goals as goal

pub loop-b-init : goal.loop-b-init
loop-b-init c = joining_begins _ _ (search rules)

pub returns-then-not-goes_on : goal.returns-then-not-goes_on
returns-then-not-goes_on c = joining_broken c.loop-b.invariant (search rules) (sym c.goes_on.ensures ∙ c.if-not-goes_on.true)

pub overflow_mul-value : goal.overflow_mul-value
overflow_mul-value c = omega (arith, joining_small c.loop-b.invariant (search rules) (search rules))

pub overflow_add-value : goal.overflow_add-value
overflow_add-value c = omega (arith, joining_small c.loop-b.invariant (search rules) (search rules))

pub loop-b-preserved : goal.loop-b-preserved
loop-b-preserved c = joining_more c.loop-b.invariant (search rules) (sym c.goes_on.ensures ∙ c.if-not-goes_on.false)

pub returns : goal.returns
returns c = joining_done c.loop-b.invariant (search rules)
