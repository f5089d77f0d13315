-- `start_element::declared_size` meets its contract.
use Rattle.spec.specs.Limits.{most_attributes}
use Rattle.start_element.specs.Sizes.{summed_begins, summed_more, summed_done, few_bytes}
use native.Mathlib.Omega.{arith}
use Rattle.start_element.proofs.declared_size.Goals as goal

pub loop-j-init : goal.loop-j-init
loop-j-init c = summed_begins

pub overflow_add-n : goal.overflow_add-n
unfolding most_attributes
overflow_add-n c = omega (arith, c.bytes_at-n.ensures, few_bytes c.args.scratch.now c.args.spans.now c.loop-j.j c.requires.0)

pub loop-j-preserved : goal.loop-j-preserved
loop-j-preserved c = summed_more c.loop-j.invariant c.requires.0 (omega arith) c.bytes_at-n.ensures

pub returns : goal.returns
returns c = summed_done c.loop-j.invariant (omega arith)
