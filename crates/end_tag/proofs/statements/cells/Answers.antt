-- `end_tag::statements::cells` meets its contract.
use mathlib.Core.Path.{refl}
use Rattle.spec.specs.Limits.{most_labels}
use Rattle.end_tag.specs.Cells.{celled_begins, celled_more, celled_done}
use native.Mathlib.Omega.{arith}
use Rattle.end_tag.proofs.statements.cells.Goals as goal

pub loop-left-init : goal.loop-left-init
loop-left-init c = celled_begins c.requires c.wide-e.ensures.0 refl

pub cell-to-requires : goal.cell-to-requires
unfolding most_labels
cell-to-requires c = let h = c.loop-left.invariant in (h.from, omega (arith, h.counts, h.few))

pub overflow_add-n : goal.overflow_add-n
overflow_add-n c = let h = c.loop-left.invariant in omega (arith, h.counts, h.few)

pub loop-left-preserved : goal.loop-left-preserved
loop-left-preserved c = celled_more c.loop-left.invariant (omega arith) c.child_at-c.ensures c.cell-to.ensures

pub shape_of-out : goal.shape_of-out
shape_of-out c = c.loop-left.invariant.put.same

pub returns : goal.returns
returns c = celled_done c.loop-left.invariant (omega arith) c.args.f c.wide-e.ensures.0 refl
