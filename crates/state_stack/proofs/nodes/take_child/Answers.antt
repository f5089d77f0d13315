-- `state_stack::nodes::take_child` meets its contract. A law of specs/ for each return, with the tests that led there.
use Rattle.spec.specs.Limits.{work_store_bytes}
use Rattle.state_stack.specs.Take.{movable, moved_down, child_none, child-many, child-made}
use mathlib.Core.Path.{◌∙◌}
use native.Mathlib.Omega.{arith}
use Rattle.std.proofs.Common.{sym}
use Rattle.state_stack.proofs.nodes.take_child.Goals as goal

pub returns-then-not-may_take : goal.returns-then-not-may_take
returns-then-not-may_take c = child_none c.wide-from.ensures.0 (c.saturating_sub-len.ensures ∙ rw (c.wide-from.ensures.0, c.wide.ensures.0)) c.wide-to.ensures.0 (sym c.may_take.ensures ∙ c.if-not-may_take.true)

pub returns-then-count-ge-MOST_CHILDREN : goal.returns-then-count-ge-MOST_CHILDREN
returns-then-count-ge-MOST_CHILDREN c = child-many c.wide-from.ensures.0 (c.saturating_sub-len.ensures ∙ rw (c.wide-from.ensures.0, c.wide.ensures.0)) c.wide-to.ensures.0 (sym c.may_take.ensures ∙ c.if-not-may_take.false) (omega arith)

pub overflow_cast-at : goal.overflow_cast-at
overflow_cast-at c = let m = movable _ _ _ _ _ _ (sym c.may_take.ensures ∙ c.if-not-may_take.false) in omega arith

pub overflow_sub-r : goal.overflow_sub-r
overflow_sub-r c = let m = movable _ _ _ _ _ _ (sym c.may_take.ensures ∙ c.if-not-may_take.false) in omega arith

pub copy_within-requires-clause-in_bounds : goal.copy_within-requires-clause-in_bounds
unfolding work_store_bytes
copy_within-requires-clause-in_bounds c = let m = movable _ _ _ _ _ _ (sym c.may_take.ensures ∙ c.if-not-may_take.false) in omega arith

pub copy_within-requires-clause-dest_in_bounds : goal.copy_within-requires-clause-dest_in_bounds
unfolding work_store_bytes
copy_within-requires-clause-dest_in_bounds c = let m = movable _ _ _ _ _ _ (sym c.may_take.ensures ∙ c.if-not-may_take.false) in omega arith

pub overflow_cast-mark-2 : goal.overflow_cast-mark-2
overflow_cast-mark-2 c = let m = movable _ _ _ _ _ _ (sym c.may_take.ensures ∙ c.if-not-may_take.false) in omega arith

pub returns : goal.returns
unfolding work_store_bytes
returns c = child-made c.wide-from.ensures.0 (c.saturating_sub-len.ensures ∙ rw (c.wide-from.ensures.0, c.wide.ensures.0)) c.wide-to.ensures.0 c.blank_byte.ensures c.requires (sym c.may_take.ensures ∙ c.if-not-may_take.false) (omega arith) c.store.ensures (c.copy_within.ensures.after ∙ moved_down _ _ _ _ (let m = movable _ _ _ _ _ _ (sym c.may_take.ensures ∙ c.if-not-may_take.false) in omega arith)) c.put.ensures c.with_top.ensures
