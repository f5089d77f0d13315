-- `state_ids::find` meets its contract.
use Rattle.spec.specs.Limits.{most_ids}
use Rattle.state_ids.specs.Walks.{sought_begins, sought_none, sought_hit, sought_more, sought_done}
use mathlib.Core.Path.{sym, ◌∙◌}
use native.Mathlib.Omega.{arith}
use Rattle.state_ids.proofs.find.Goals as goal

pub returns-then-count-gt-MOST : goal.returns-then-count-gt-MOST
unfolding most_ids
returns-then-count-gt-MOST c = sought_none _ _ _ _ _ (omega arith)

pub loop-i-init : goal.loop-i-init
unfolding most_ids
loop-i-init c = sought_begins (omega arith)

pub offset_bounds-at-i : goal.offset_bounds-at-i
unfolding most_ids
offset_bounds-at-i c = omega (arith, c.loop-i.invariant.few)

pub is_at-requires : goal.is_at-requires
is_at-requires c = rw (c.wide-start.ensures.0, c.wide-size.ensures.0) (c.requires.inside _ (omega (arith, c.loop-i.invariant.upto)))

pub returns-then-is_at : goal.returns-then-is_at
returns-then-is_at c = sym c.if-is_at.true ∙ sought_hit c.loop-i.invariant (omega arith) c.wide-start.ensures.0 c.wide-size.ensures.0 c.is_at.ensures c.if-is_at.true

pub loop-i-preserved : goal.loop-i-preserved
loop-i-preserved c = sought_more c.loop-i.invariant (omega arith) c.wide-start.ensures.0 c.wide-size.ensures.0 c.is_at.ensures c.if-is_at.false

pub returns : goal.returns
returns c = sought_done c.loop-i.invariant (omega arith)
