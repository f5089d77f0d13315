-- `start_names::count_declared` meets its contract.
use Rattle.start_names.specs.Declarations.{counted-begins, counted_more, counted_done, at_most_one}
use Rattle.start_names.specs.Tag.{attribute_at}
use native.Mathlib.Omega.{arith}
use Rattle.start_names.proofs.count_declared.Goals as goal

pub loop-j-init : goal.loop-j-init
loop-j-init c = counted-begins

pub overflow_add-n : goal.overflow_add-n
overflow_add-n c = omega (arith, c.declared_at-n.ensures, at_most_one (attribute_at c.args.scratch.now c.args.spans.now c.loop-j.j))

pub loop-j-preserved : goal.loop-j-preserved
loop-j-preserved c = counted_more c.loop-j.invariant (omega arith) c.declared_at-n.ensures

pub returns : goal.returns
returns c = counted_done c.loop-j.invariant (omega arith)
